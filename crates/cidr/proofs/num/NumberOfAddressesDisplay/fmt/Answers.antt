-- 2^128 in decimal.
use Rattle.std.specs.Fmt.{digits}
use Rattle.cidr.proofs.num.NumberOfAddressesDisplay.fmt.Goals as goal

pub returns-in-MaxIpv6Addresses-clause-writes : goal.returns-in-MaxIpv6Addresses-clause-writes
unfolding digits
returns-in-MaxIpv6Addresses-clause-writes g c plain ok = rw c.in-MaxIpv6Addresses.is (c.write_str.ensures.writes plain ok)
