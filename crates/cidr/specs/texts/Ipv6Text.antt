-- An IPv6 address as a string (RFC 4291, 2.2): eight groups joined by colons, or fewer with `::` for the missing
-- groups, which are zero. In the last place an IPv4 address in dotted form may stand for two groups.
use Rattle.std.specs.Prelude.{◌≡◌, ℕ, ◌+◌, ◌-◌, ◌*◌, ◌≤◌, ◌⊎◌, Bool, List, [], ◌∷◌, ◌++◌, length, replicate}
use Rattle.std.specs.Str.Parse.{IsNumeral, digits_value}
use Rattle.cidr.specs.model.Address.{group_bits}
use Rattle.cidr.specs.texts.Ipv4Text.{IsOctetText, IsJoined}

-- `b':'`
abbrev pub colon : ℕ
colon = 58

-- one to four hexadecimal digits of either case (RFC 4291, 2.2, form 1)
abbrev pub IsGroupText : List ℕ → ℕ → Type 0
IsGroupText text n = IsNumeral 16 text × (length text ≤ 4) × (digits_value 16 text ≡ n)

-- groups joined by colons, and at least one
abbrev pub IsGroups : List ℕ → List ℕ → Type 0
IsGroups text [] = ⊥
IsGroups text (g ∷ []) = IsGroupText text g
IsGroups text (g ∷ h ∷ gs) = (front back : List ℕ) × (text ≡ front ++ colon ∷ back) × IsGroupText front g × IsGroups back (h ∷ gs)

-- an IPv4 address in dotted form as two groups (RFC 4291, 2.2, form 3)
abbrev pub IsDottedPair : List ℕ → ℕ → ℕ → Type 0
IsDottedPair text g h = (i j k l : ℕ) × IsJoined IsOctetText text (i ∷ j ∷ k ∷ l ∷ []) × (g ≡ i * 256 + j) × (h ≡ k * 256 + l)

-- groups joined by colons, the last two of them in dotted form
abbrev pub IsDottedRun : List ℕ → List ℕ → Type 0
IsDottedRun text groups =
    (before : List ℕ) × (g h : ℕ) × (groups ≡ before ++ g ∷ h ∷ [])
    × (((before ≡ []) × IsDottedPair text g h)
    ⊎ ((front back : List ℕ) × (text ≡ front ++ colon ∷ back) × IsGroups front before × IsDottedPair back g h))

-- groups joined by colons, where the last two may be in dotted form
abbrev pub IsRun : List ℕ → List ℕ → Type 0
IsRun text groups = IsGroups text groups ⊎ IsDottedRun text groups

-- the empty string, for no group
abbrev pub IsNothing : List ℕ → List ℕ → Type 0
IsNothing text groups = (text ≡ []) × (groups ≡ [])

-- `::` once, with at most seven groups beside it, so that it stands for at least one zero group (RFC 4291, 2.2, form 2)
pub record IsElided (text groups : List ℕ) : Type 0 where
  pub front : List ℕ
  pub back : List ℕ
  pub head : List ℕ
  pub tail : List ℕ
  pub spelled : text ≡ front ++ colon ∷ colon ∷ back
  pub front_text : IsNothing front head ⊎ IsGroups front head
  pub back_text : IsNothing back tail ⊎ IsRun back tail
  pub room : length head + length tail ≤ 7
  pub value : groups ≡ head ++ replicate (8 - (length head + length tail)) 0 ++ tail

-- a string of eight groups, with or without `::`
abbrev pub IsEightGroups : List ℕ → List ℕ → Type 0
IsEightGroups text groups = (IsRun text groups × (length groups ≡ 8)) ⊎ IsElided text groups

-- the string represents these 128 bits: its eight groups in order
pub record IsIpv6Text (text : List ℕ) (address : List Bool) : Type 0 where
  pub groups : List ℕ
  pub eight : IsEightGroups text groups
  pub value : address ≡ group_bits groups
