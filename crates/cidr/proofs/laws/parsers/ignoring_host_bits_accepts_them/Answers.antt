-- Ignoring host bits beside strict reading.
use Rattle.cidr.proofs.HostBitsIgnored.{mends}
use Rattle.cidr.proofs.laws.parsers.ignoring_host_bits_accepts_them.Goals as goal

pub returns : goal.returns
returns c returned back strict mended = mends back strict mended returned
