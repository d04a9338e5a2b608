-- What the readers of parts joined by dots promise.
use Rattle.std.specs.Prelude.{◌≡◌, ◌≢◌, ℕ, ◌<◌, ◌≤◌, ◌⊎◌, List, [], ◌∷◌, ◌++◌, length, slice_index}
use Rattle.std.specs.List.{All}
use Rattle.cidr.specs.texts.Ipv4Text.{digit_zero, IsJoined}
use Rattle.cidr.specs.texts.NetworkText.{plus}
use Rattle.cidr.specs.texts.LooseText.{IsLetterX}
use Rattle.cidr.specs.internal.Reading.{WritesParts}

-- all of the string but a plus that it begins with
abbrev pub IsAfterPlus : List ℕ → List ℕ → Type 0
IsAfterPlus text digits = (text ≡ plus ∷ digits) ⊎ ((digits ≡ text) × ((rest : List ℕ) → text ≢ plus ∷ rest))

-- Where a string begins with a loose part, its digits begin there, and have that radix: hexadecimal, octal or decimal.
abbrev pub LeadsToDigits : List ℕ → ℕ → List ℕ → Type 0
LeadsToDigits text radix digits =
    ((radix ≡ 16) × (x : ℕ) × IsLetterX x × (text ≡ digit_zero ∷ x ∷ digits))
    ⊎ (((radix ≡ 8) × (digits ≡ text) × (rest : List ℕ) × (text ≡ digit_zero ∷ rest) × ¬ (IsLetterX (slice_index rest 0)))
    ⊎ ((radix ≡ 10) × ((rest : List ℕ) → text ≢ digit_zero ∷ rest) × IsAfterPlus text digits))

-- up to three octets
abbrev pub AreOctets : List ℕ → Type 0
AreOctets octets = (length octets ≤ 3) × All (λ octet. octet < 256) octets

-- The string joins up to three octets and a last number, and nothing else. The octets write a number, and are so many.
pub record JoinsParts (Part : List ℕ → ℕ → Type 0) (text : List ℕ) (front count last : ℕ) : Type 0 where
  pub octets : List ℕ
  pub many : length octets ≡ count
  pub fit : AreOctets octets
  pub number : WritesParts 8 octets front
  pub joined : IsJoined Part text (octets ++ last ∷ [])
  pub only : (ns : List ℕ) → IsJoined Part text ns → ns ≡ octets ++ last ∷ []

-- the string joins no such parts
abbrev pub JoinsNone : (List ℕ → ℕ → Type 0) → List ℕ → Type 0
JoinsNone Part text = (octets : List ℕ) (last : ℕ) → AreOctets octets → ¬ (IsJoined Part text (octets ++ last ∷ []))
