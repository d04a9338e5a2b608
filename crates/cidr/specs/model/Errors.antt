-- What the errors with private fields tell: the error of an address string, and of a prefix length above the width.
use Rattle.std.specs.Prelude.{ℕ, Option}
use Rattle.cidr.specs.declared.family.Family.{Family}

-- the family that was parsed, and none where either was
abbrev pub AddressError : Type 0
AddressError = Option Family

-- the prefix length, and the family whose width it exceeds
abbrev pub LengthError : Type 0
LengthError = ℕ × Family
