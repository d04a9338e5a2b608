-- Reading refuses exactly the texts that spell no network.
use Rattle.std.proofs.Common.{ap}
use Rattle.cidr.specs.declared.errors.NetworkParseError.TheVariants as parse_error
use Rattle.cidr.proofs.parsers.short.parse_short_ipv4_address_as_cidr.Goals as goal

pub returns-in-None : goal.returns-in-None
returns-in-None c = (ap parse_error.AddrParseError c.ipv4.ensures, rw c.as_bytes.ensures.value at c.in-None.ensures)
