-- Parsing around the strict parser of addresses.
use Rattle.std.proofs.Common.{subst}
use Rattle.cidr.specs.either.IpAddress.{IsIpText}
use Rattle.cidr.specs.texts.AddressText.{Reads}
use Rattle.cidr.specs.texts.Messages.{ip_error}
use Rattle.cidr.proofs.EitherParsing.{any_strictly_read}
use Rattle.cidr.proofs.parsers.any.AnyIpCidrFromStr.from_str.Goals as goal

pub returns : goal.returns
returns c =
    any_strictly_read _ (λ text r h. subst (λ t. Reads IsIpText ip_error t r) h.shows h.says.met) c.args.s.now c.parse_any_cidr.result
    c.parse_any_cidr.ensures
