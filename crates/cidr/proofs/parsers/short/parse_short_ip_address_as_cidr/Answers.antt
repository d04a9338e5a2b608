-- A strict text of either family is a short text, and the readers of both families refuse what is none.
use Rattle.std.proofs.Common.{ap}
use Rattle.cidr.specs.declared.errors.NetworkParseError.TheVariants as parse_error
use Rattle.cidr.proofs.ShortGrammar.{strict_ip_is_short, no_short_ip}
use Rattle.cidr.proofs.parsers.short.parse_short_ip_address_as_cidr.Goals as goal

pub returns-in-Ok : goal.returns-in-Ok
returns-in-Ok c = rw c.new_host.ensures.value (strict_ip_is_short _ _ c.in-Ok.ensures.value)

pub returns-in-None : goal.returns-in-None
returns-in-None c =
    (ap parse_error.AddrParseError c.in-Err.ensures.value.0, no_short_ip _ c.in-Err.ensures.value.1 (rw c.as_bytes.ensures.value at c.in-None.ensures))
