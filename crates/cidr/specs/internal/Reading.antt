-- What the parsers of a part of a string promise each other.
use Rattle.std.specs.Prelude.{◌≡◌, ◌≢◌, ℕ, ◌+◌, ◌*◌, ◌^◌, ◌<◌, ◌≤◌, ◌↔◌, ◌⊎◌, nat_lt, if◌then◌else◌, Bool, true, List, [], ◌∷◌, ◌++◌, length, take, flat_map, Option, MatchOption, slice_index, Result, Ok}
use Rattle.std.specs.Borrow.{Bor}
use Rattle.std.specs.Char.{digit_value}
use Rattle.std.specs.Net.Reader.{read_segments}
use Rattle.cidr.specs.model.Bits.{bits}
use Rattle.cidr.specs.texts.Ipv4Text.{dot, IsOctetText, IsJoined}
use Rattle.cidr.specs.texts.Ipv6Text.{colon, IsGroupText}
use Rattle.cidr.specs.texts.NetworkText.{slash}
use Rattle.cidr.specs.declared.errors.NetworkParseError.{NetworkParseError}

-- this byte was read
abbrev pub TakesByte : ℕ → List ℕ → Option (Bor (List ℕ)) → Type 0
TakesByte byte text r = MatchOption r ((rest : List ℕ) → text ≢ byte ∷ rest) (λ rest. text ≡ byte ∷ rest.now)

-- a slash stands here, and none after it
abbrev pub IsLastSlash : List ℕ → ℕ → Type 0
IsLastSlash text i =
    (i < length text) × (slice_index text i ≡ slash) × ((k : ℕ) → i < k → k < length text → slice_index text k ≢ slash)

-- this byte is no decimal digit
abbrev pub IsNoDigit : ℕ → Type 0
IsNoDigit byte = 48 ≤ byte → 57 < byte

-- how many digits come first, of three bytes that have these values, of which the first is a digit
abbrev pub IsDigitCount : ℕ → ℕ → ℕ → Type 0
IsDigitCount second third count =
    ((count ≡ 1) × (10 ≤ second)) ⊎ (((count ≡ 2) × (second < 10) × (10 ≤ third)) ⊎ ((count ≡ 3) × (second < 10) × (third < 10)))

-- the first one, two or three of these are values of digits
pub record AreDigits (first second third count : ℕ) : Type 0 where
  pub some : 1 ≤ count
  pub few : count ≤ 3
  pub one : first < 10
  pub two : 1 < count → second < 10
  pub three : 2 < count → third < 10

-- the string of the first of these digits
abbrev pub digits_text : ℕ → ℕ → ℕ → ℕ → List ℕ
digits_text first second third count = take count ((48 + first) ∷ (48 + second) ∷ (48 + third) ∷ [])

-- the octet that it represents was read
abbrev pub ReadsOctet : ℕ → ℕ → ℕ → ℕ → Option ℕ → Type 0
ReadsOctet first second third count r =
    MatchOption r ((n : ℕ) → ¬ (IsOctetText (digits_text first second third count) n)) (IsOctetText (digits_text first second third count))

-- the string is at its end, or a dot comes next
abbrev pub StopsAtDot : List ℕ → Type 0
StopsAtDot text = (text ≡ []) ⊎ ((rest : List ℕ) × (text ≡ dot ∷ rest))

-- a part stands first, and one that ends at a dot or at the end can be only this one
pub record IsFirstPart (Part : List ℕ → ℕ → Type 0) (text : List ℕ) (n : ℕ) (rest : List ℕ) : Type 0 where
  pub front : List ℕ
  pub spelled : text ≡ front ++ rest
  pub part : Part front n
  pub only : (t : List ℕ) (m : ℕ) (more : List ℕ) → Part t m → StopsAtDot more → text ≡ t ++ more → (m ≡ n) × (more ≡ rest)

-- no part that ends at a dot or at the end stands first
abbrev pub NoPartFirst : (List ℕ → ℕ → Type 0) → List ℕ → Type 0
NoPartFirst Part text = (t : List ℕ) (m : ℕ) (more : List ℕ) → Part t m → StopsAtDot more → text ≢ t ++ more

abbrev pub TakesPart : (List ℕ → ℕ → Type 0) → List ℕ → Option (ℕ × Bor (List ℕ)) → Type 0
TakesPart Part text r = MatchOption r (NoPartFirst Part text) (λ p. IsFirstPart Part text p.0 p.1.now)

-- an octet and a dot were read: the octets of the string are that one and those of the rest
abbrev pub TakesFirst : List ℕ → Option (ℕ × Bor (List ℕ)) → Type 0
TakesFirst text r =
    MatchOption r ((n m : ℕ) (ns : List ℕ) → ¬ (IsJoined IsOctetText text (n ∷ m ∷ ns)))
    (λ p. (n m : ℕ) (ns : List ℕ) → IsJoined IsOctetText text (n ∷ m ∷ ns) ↔ ((n ≡ p.0) × IsJoined IsOctetText p.1.now (m ∷ ns)))

-- the value of a byte as a digit, where it is one in radix 16, or else a number that four digits can't write
abbrev pub IsDigitOrNo : ℕ → ℕ → Type 0
IsDigitOrNo value n = ((value < 16) × (n ≡ value)) ⊎ ((16 ≤ value) × (n ≡ 16 ^ 4))

-- no hexadecimal digit stands first
abbrev pub NoHexFirst : List ℕ → Type 0
NoHexFirst text = 16 ≤ digit_value (slice_index text 0)

-- a group stands first, and no digit follows it
pub record IsFirstGroup (text : List ℕ) (n : ℕ) (rest : List ℕ) : Type 0 where
  pub front : List ℕ
  pub spelled : text ≡ front ++ rest
  pub group : IsGroupText front n
  pub ends : NoHexFirst rest

-- no group that no digit follows stands first
abbrev pub NoGroupFirst : List ℕ → Type 0
NoGroupFirst text = (t : List ℕ) (n : ℕ) (more : List ℕ) → IsGroupText t n → NoHexFirst more → text ≢ t ++ more

abbrev pub TakesGroup : List ℕ → Option (ℕ × Bor (List ℕ)) → Type 0
TakesGroup text r = MatchOption r (NoGroupFirst text) (λ p. IsFirstGroup text p.0 p.1.now)

-- a group of four digits stands first, and a colon follows it
pub record IsFullGroup (text : List ℕ) (n : ℕ) (rest : List ℕ) : Type 0 where
  pub first : IsFirstGroup text n (colon ∷ rest)
  pub four : length first.front ≡ 4

abbrev pub TakesFullGroup : List ℕ → Option (ℕ × Bor (List ℕ)) → Type 0
TakesFullGroup text r =
    MatchOption r ((n : ℕ) (rest : List ℕ) → ¬ (IsFullGroup text n rest)) (λ p. IsFullGroup text p.0 p.1.now)

-- two colons were read
abbrev pub TakesTwoColons : List ℕ → Option (Bor (List ℕ)) → Type 0
TakesTwoColons text r =
    MatchOption r ((rest : List ℕ) → text ≢ colon ∷ colon ∷ rest) (λ rest. text ≡ colon ∷ colon ∷ rest.now)

-- what is left after so many groups, with the colon behind the last of them
abbrev pub with_colon : ℕ → List ℕ → List ℕ
with_colon count rest = if nat_lt 0 count then colon ∷ rest else rest

-- the number whose bits are those of the parts, of k bits each
pub record WritesParts (k : ℕ) (parts : List ℕ) (n : ℕ) : Type 0 where
  pub fits : n < 2 ^ (k * length parts)
  pub value : bits (k * length parts) n ≡ flat_map (bits k) parts

-- at most so many groups stand first, these and no more, and this is left: nothing, where an IPv4 address stands last
pub record IsFound (room : ℕ) (text : List ℕ) (n count : ℕ) (rest : List ℕ) : Type 0 where
  pub groups : List ℕ
  pub dotted : Bool
  pub found : read_segments room true text ≡ (groups, dotted, rest)
  pub ends : dotted ≡ true → rest ≡ []
  pub many : length groups ≡ count
  pub fits : count ≤ room
  pub number : WritesParts 16 groups n

-- the same, where this is left after the colon behind them, or nothing where the last of them ends the string
pub record FindsGroups (room : ℕ) (text : List ℕ) (n count : ℕ) (rest : List ℕ) : Type 0 where
  pub left : List ℕ
  pub found : IsFound room text n count left
  pub all : rest ≡ [] → left ≡ []
  pub some : rest ≢ [] → left ≡ with_colon count rest
  pub fewer : rest ≢ [] → 0 < count → count < room

-- what is left after the groups is neither nothing nor `::`, or they take up all the room
pub record IsStuck (room : ℕ) (text : List ℕ) : Type 0 where
  pub left : (read_segments room true text).2 ≢ []
  pub other : ((read_segments room true text).1 ≡ true) ⊎ ((length (read_segments room true text).0 ≡ room)
      ⊎ ((rest : List ℕ) → (read_segments room true text).2 ≢ colon ∷ colon ∷ rest))

-- an address and a length, as they are
abbrev pub AreParts : {A : Type 0} → A → ℕ → Result (A × ℕ) NetworkParseError → Type 0
AreParts a n parts = parts ≡ Ok (a, n)
