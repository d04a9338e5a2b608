-- Numbers of addresses, up to 2^128.
use Rattle.std.specs.Prelude.{ℕ, ◌^◌}
use Rattle.cidr.specs.declared.num.NumberOfAddresses.{NumberOfAddresses}
use Rattle.cidr.specs.declared.num.NumberOfAddresses.TheVariants.{Count, MaxIpv6Addresses}

-- the number that is counted: a `u128`, or 2^128, which no `u128` is
abbrev pub number_of : NumberOfAddresses → ℕ
number_of (Count n) = n
number_of MaxIpv6Addresses = 2 ^ 128
