-- Prefix bytes (RFC 4271, 4.3; RFC 4760, 5): the length of a prefix in bits, in one octet, and then the fewest octets that
-- hold so many bits, the first bits first. w is the width of addresses.
use Rattle.std.specs.Prelude.{◌≡◌, ◌↔◌, ℕ, ◌+◌, ◌*◌, ◌/◌, ◌<◌, ◌≤◌, ◌⊎◌, Bool, List, [], ◌∷◌, length, Result, Ok, IfErr}
use Rattle.cidr.specs.model.Address.{parts_of, octet_bits}
use Rattle.cidr.specs.model.Network.{first_of, BeginsWith}
use Rattle.cidr.specs.bytes.Compact.{AreFirst}
use Rattle.cidr.specs.declared.errors.PrefixBytesError.{PrefixBytesError}
use Rattle.cidr.specs.declared.errors.PrefixBytesError.TheVariants.{LengthTooLong, Truncated}

-- the fewest octets that hold n bits
abbrev pub octets_for : ℕ → ℕ
octets_for n = (n + 7) / 8

-- what is written: the prefix length, and then the octets; the bits of the last octet after the prefix are zero
abbrev pub prefix_bytes : List Bool → List ℕ
prefix_bytes prefix =
    length prefix ∷ parts_of 8 (octets_for (length prefix)) (first_of (8 * octets_for (length prefix)) prefix)

-- what is read as this prefix: the bits of the last octet after the prefix are free (RFC 4271, 4.3: their value is
-- irrelevant)
pub record SpellsPrefix (w : ℕ) (bytes : List ℕ) (prefix : List Bool) : Type 0 where
  pub octets : List ℕ
  pub parts : bytes ≡ length prefix ∷ octets
  pub within : length prefix ≤ w
  pub fewest : length octets ≡ octets_for (length prefix)
  pub first : BeginsWith (octet_bits octets) prefix

-- ---- reading
-- the first k bytes of the input are read as this prefix
abbrev pub HasPrefix : ℕ → List ℕ → List Bool → ℕ → Type 0
HasPrefix w input prefix k = (bytes : List ℕ) × AreFirst k input bytes × SpellsPrefix w bytes prefix

-- the error of an input that begins with no prefix: a length above the width, or no byte or too few octets for a length
-- within it
abbrev pub IsPrefixRefused : ℕ → List ℕ → PrefixBytesError → Type 0
IsPrefixRefused w input LengthTooLong = (n : ℕ) × (rest : List ℕ) × (input ≡ n ∷ rest) × (w < n)
IsPrefixRefused w input Truncated =
    (input ≡ []) ⊎ ((n : ℕ) × (rest : List ℕ) × (input ≡ n ∷ rest) × (n ≤ w) × (length rest < octets_for n))

-- reading gives a prefix and k exactly where the first k bytes are read as it, and else the error
pub record ReadsPrefix (w : ℕ) (input : List ℕ) (r : Result (List Bool × ℕ) PrefixBytesError) : Type 0 where
  pub exactly : (prefix : List Bool) (k : ℕ) → (r ≡ Ok (prefix, k)) ↔ HasPrefix w input prefix k
  pub refused : IfErr r (IsPrefixRefused w input)
