-- The strings that represent an address of a family, and the error of any other string.
use Rattle.std.specs.Prelude.{◌≡◌, ℕ, Bool, List, Result, MatchResult}
use Rattle.cidr.specs.texts.Ipv4Text.{IsIpv4Text}
use Rattle.cidr.specs.texts.Ipv6Text.{IsIpv6Text}
use Rattle.cidr.specs.texts.Messages.{ipv4_error, ipv6_error}
use Rattle.cidr.specs.model.Errors.{AddressError}
use Rattle.cidr.specs.declared.family.Family.{Family}
use Rattle.cidr.specs.declared.family.Family.TheVariants.{Ipv4, Ipv6}

-- the string represents this address of the family
abbrev pub IsAddressText : Family → List ℕ → List Bool → Type 0
IsAddressText Ipv4 = IsIpv4Text
IsAddressText Ipv6 = IsIpv6Text

-- the error of parsing an address of the family
abbrev pub address_error : Family → AddressError
address_error Ipv4 = ipv4_error
address_error Ipv6 = ipv6_error

-- of a string and the result of parsing it: a value that the string represents; or this error, and then it represents
-- no value
abbrev pub Reads : {A E : Type 0} → (List ℕ → A → Type 0) → E → List ℕ → Result A E → Type 0
Reads {A} Spells error text r = MatchResult r (Spells text) (λ e. (e ≡ error) × ((a : A) → ¬ (Spells text a)))
