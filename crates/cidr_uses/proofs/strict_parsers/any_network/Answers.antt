use Rattle.std.proofs.Common.{subst}
use Rattle.cidr.specs.either.IpAddress.{IsIpText}
use Rattle.cidr.specs.texts.AddressText.{Reads}
use Rattle.cidr.specs.texts.Messages.{ip_error}
use Rattle.cidr_uses.proofs.StrictParsers.{any_read}
use Rattle.cidr_uses.proofs.strict_parsers.any_network.Goals as goal

pub returns : goal.returns
returns c =
    any_read _ (c.parsing_around_strict_ip_is_strict.ensures.network (λ text r h. subst (λ t. Reads IsIpText ip_error t r) h.shows h.says.met)) c.args.s.now
    c.parse_any_cidr.result c.parse_any_cidr.ensures
