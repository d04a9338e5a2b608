use Rattle.std.proofs.Common.{refl}
use Rattle.cidr_rules.proofs.Endpoints.{is_rule}
use Rattle.cidr_rules.proofs.entries.Entry.rule.Goals as goal

pub returns : goal.returns
returns g c = is_rule _ _ _ _ _ refl c.addresses.ensures c.addresses-2.ensures c.protocols.ensures c.sources.ensures c.targets.ensures
