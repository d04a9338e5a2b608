-- A network as a string: an address, or an address, a slash and a prefix length (RFC 4632, 3.1; the crate `cidr`).
use Rattle.std.specs.Prelude.{◌≡◌, ℕ, ◌-◌, ◌<◌, ◌≤◌, ◌⊎◌, Bool, List, ◌∷◌, ◌++◌, take, drop}
use Rattle.std.specs.Str.Parse.{IsNumeral, digits_value}
use Rattle.cidr.specs.model.Network.{width_of, zeros}
use Rattle.cidr.specs.texts.AddressText.{IsAddressText}
use Rattle.cidr.specs.declared.family.Family.{Family}

-- `b'/'`
abbrev pub slash : ℕ
slash = 47

-- `b'+'`
abbrev pub plus : ℕ
plus = 43

-- one or more digits of the radix, of a value below the limit; leading zeros are allowed
abbrev pub IsNumberText : ℕ → ℕ → List ℕ → ℕ → Type 0
IsNumberText radix limit text n = IsNumeral radix text × (digits_value radix text ≡ n) × (n < limit)

-- one or more decimal digits of a value below 256
abbrev pub IsByteText : List ℕ → ℕ → Type 0
IsByteText = IsNumberText 10 256

-- a prefix length: the same after an optional plus (std's `u8`, by which the crate `cidr` parses it)
abbrev pub IsLengthText : List ℕ → ℕ → Type 0
IsLengthText text n = IsByteText text n ⊎ ((digits : List ℕ) × (text ≡ plus ∷ digits) × IsByteText digits n)

-- an address, a slash and a prefix length, which is within the width and after which no bit of the address is set
pub record IsSlashed (family : Family) (text : List ℕ) (network : List Bool) : Type 0 where
  pub front : List ℕ
  pub back : List ℕ
  pub address : List Bool
  pub len : ℕ
  pub spelled : text ≡ front ++ slash ∷ back
  pub front_text : IsAddressText family front address
  pub back_text : IsLengthText back len
  pub fits : len ≤ width_of family
  pub host : drop len address ≡ zeros (width_of family - len)
  pub value : network ≡ take len address

-- the string represents this network: an address alone is the network of that one address
abbrev pub IsNetworkText : Family → List ℕ → List Bool → Type 0
IsNetworkText family text network = IsAddressText family text network ⊎ IsSlashed family text network
