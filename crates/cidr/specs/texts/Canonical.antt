-- The canonical string of an IPv6 address (RFC 5952, 4 and 5; std). Each address has one.
use Rattle.std.specs.Prelude.{◌≡◌, ℕ, ◌+◌, ◌<◌, ◌≤◌, ◌⊎◌, Bool, List, [], ◌∷◌, ◌++◌, length, take, drop, replicate, codes, slice_index}
use Rattle.std.specs.Char.{IsNotAsciiUppercase}
use Rattle.cidr.specs.model.Address.{groups_of}
use Rattle.cidr.specs.texts.Ipv4Text.{digit_zero, IsIpv4Text}
use Rattle.cidr.specs.texts.Ipv6Text.{colon, IsGroupText}

-- a group in lower case without leading zeros (RFC 5952, 4.1 and 4.3)
pub record IsPlainGroup (text : List ℕ) (n : ℕ) : Type 0 where
  pub group : IsGroupText text n
  pub lower : (i : ℕ) → i < length text → IsNotAsciiUppercase (slice_index text i)
  pub no_leading_zero : slice_index text 0 ≡ digit_zero → length text ≡ 1

-- such groups joined by colons; the empty string for no group
abbrev pub IsPlainGroups : List ℕ → List ℕ → Type 0
IsPlainGroups text [] = text ≡ []
IsPlainGroups text (g ∷ []) = IsPlainGroup text g
IsPlainGroups text (g ∷ h ∷ gs) = (front back : List ℕ) × (text ≡ front ++ colon ∷ back) × IsPlainGroup front g × IsPlainGroups back (h ∷ gs)

-- so many groups from index `start` on are zero
abbrev pub IsZeroRun : List ℕ → ℕ → ℕ → Type 0
IsZeroRun groups start len = (start + len ≤ length groups) × (take len (drop start groups) ≡ replicate len 0)

-- no run of zero groups is longer, and none as long starts before it (RFC 5952, 4.2.3)
pub record IsBestRun (groups : List ℕ) (start len : ℕ) : Type 0 where
  pub zeros : IsZeroRun groups start len
  pub longest : (s l : ℕ) → IsZeroRun groups s l → l ≤ len
  pub leftmost : (s : ℕ) → IsZeroRun groups s len → start ≤ s

-- all eight groups, where no two zero groups stand side by side (RFC 5952, 4.2.2)
abbrev pub IsFullText : List ℕ → List ℕ → Type 0
IsFullText text groups = ((start len : ℕ) → IsZeroRun groups start len → len < 2) × IsPlainGroups text groups

-- `::` in place of the best run, which has two groups at least (RFC 5952, 4.2.1 to 4.2.3)
pub record IsShortenedText (text groups : List ℕ) : Type 0 where
  pub start : ℕ
  pub len : ℕ
  pub front : List ℕ
  pub back : List ℕ
  pub best : IsBestRun groups start len
  pub long : 2 ≤ len
  pub front_text : IsPlainGroups front (take start groups)
  pub back_text : IsPlainGroups back (drop (start + len) groups)
  pub spelled : text ≡ front ++ colon ∷ colon ∷ back

-- the first six groups of an IPv4-mapped address (RFC 4291, 2.5.5.2)
abbrev pub mapped_groups : List ℕ
mapped_groups = 0 ∷ 0 ∷ 0 ∷ 0 ∷ 0 ∷ 0xffff ∷ []

-- an IPv4-mapped address: its last 32 bits are an IPv4 address
abbrev pub IsMapped : List Bool → Type 0
IsMapped a = take 6 (groups_of a) ≡ mapped_groups

-- `::ffff:` and the last 32 bits in dotted form (RFC 5952, 5)
abbrev pub IsMappedText : List ℕ → List Bool → Type 0
IsMappedText text a = (ipv4 : List ℕ) × (text ≡ codes "::ffff:" ++ ipv4) × IsIpv4Text ipv4 (drop 96 a)

-- the canonical string: with a dotted end for a mapped address, and else with the best run as `::`, if there is one of
-- two groups
abbrev pub IsCanonicalText : List ℕ → List Bool → Type 0
IsCanonicalText text a =
    (IsMapped a × IsMappedText text a)
    ⊎ (¬ (IsMapped a) × (IsFullText text (groups_of a) ⊎ IsShortenedText text (groups_of a)))
