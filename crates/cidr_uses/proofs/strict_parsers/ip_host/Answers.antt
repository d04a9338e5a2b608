use Rattle.std.proofs.Common.{subst}
use Rattle.cidr.specs.either.IpAddress.{IsIpText}
use Rattle.cidr.specs.texts.AddressText.{Reads}
use Rattle.cidr.specs.texts.Messages.{ip_error}
use Rattle.cidr_uses.proofs.strict_parsers.ip_host.Goals as goal

pub returns : goal.returns
returns c =
    c.parsing_around_strict_ip_is_strict.ensures.host (λ text r h. subst (λ t. Reads IsIpText ip_error t r) h.shows h.says.met) c.args.s.now
    c.parse_inet.result c.parse_inet.ensures
