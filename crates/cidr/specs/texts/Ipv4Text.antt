-- An IPv4 address as a string: four decimal octets joined by dots (RFC 6943, 3.1.1, the strict form; std's `Ipv4Addr`).
-- A string is the list of its bytes. It represents an address or it does not, and nothing may stand before or after.
use Rattle.std.specs.Prelude.{◌≡◌, ℕ, ◌<◌, Bool, List, [], ◌∷◌, ◌++◌, length, slice_index}
use Rattle.std.specs.Str.Parse.{IsNumeral, digits_value}
use Rattle.cidr.specs.model.Address.{octet_bits}

-- `b'.'`
abbrev pub dot : ℕ
dot = 46

-- `b'0'`
abbrev pub digit_zero : ℕ
digit_zero = 48

-- a decimal number below 256 without leading zeros
pub record IsOctetText (text : List ℕ) (n : ℕ) : Type 0 where
  pub digits : IsNumeral 10 text
  pub value : digits_value 10 text ≡ n
  pub fits : n < 256
  pub no_leading_zero : slice_index text 0 ≡ digit_zero → length text ≡ 1

-- parts joined by dots, one for each number, and at least one
abbrev pub IsJoined : (List ℕ → ℕ → Type 0) → List ℕ → List ℕ → Type 0
IsJoined Part text [] = ⊥
IsJoined Part text (n ∷ []) = Part text n
IsJoined Part text (n ∷ m ∷ ns) = (front back : List ℕ) × (text ≡ front ++ dot ∷ back) × Part front n × IsJoined Part back (m ∷ ns)

-- four octets joined by dots represent their 32 bits in order
pub record IsIpv4Text (text : List ℕ) (address : List Bool) : Type 0 where
  pub octets : List ℕ
  pub four : length octets ≡ 4
  pub joined : IsJoined IsOctetText text octets
  pub value : address ≡ octet_bits octets
