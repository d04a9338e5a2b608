-- Bytes that are read in blocks, and their lines.
use Rattle.std.specs.Prelude.{◌≡◌, ℕ, ◌+◌, ◌<◌, ◌≤◌, ◌==◌, Bool, true, false, List, [], ◌∷◌, length, map, take, slice_index, Option, Some, None, IfSome}
use Rattle.std.specs.Io.KnownBytes.{Consumes, IsAtEnd}
use Rattle.std.specs.List.{slice_split}

-- ---- sources
-- a read of a source that has these bytes left, if they are told: a buffer begins with the next n of them, none only at
-- the end or where there is no room; or the read has failed, as it does only where the bytes are not told
abbrev pub Gives : Option (List ℕ) → Option (List ℕ) → Option ℕ → List ℕ → Type 0
Gives old new (Some n) buf = (n ≤ length buf) × Consumes old new (take n buf) × (n ≡ 0 → 0 < length buf → IsAtEnd new)
Gives old new None buf = old ≡ None

-- ---- lines
-- a line feed
abbrev pub is_line_feed : ℕ → Bool
is_line_feed byte = byte == 10

-- the first line feed of a text stands at this index
pub record IsFirstFeed (text : List ℕ) (index : ℕ) : Type 0 where
  pub within : index < length text
  pub here : is_line_feed (slice_index text index) ≡ true
  pub before : (k : ℕ) → k < index → is_line_feed (slice_index text k) ≡ false

-- a text has none
abbrev pub HasNoFeed : List ℕ → Type 0
HasNoFeed text = (k : ℕ) → k < length text → is_line_feed (slice_index text k) ≡ false

-- the most bytes of a line, without its line feed: 1 MiB
abbrev pub most_bytes : ℕ
most_bytes = 1048576

-- the line has more
abbrev pub IsTooLong : List ℕ → Type 0
IsTooLong line = most_bytes < length line

-- what is kept of a line: of one that is too long as many bytes as show it
abbrev pub kept_of : List ℕ → List ℕ
kept_of line = take (most_bytes + 1) line

-- the bytes between line feeds, as far as they are kept
abbrev pub lines_of : List ℕ → List (List ℕ)
lines_of text = map kept_of (slice_split is_line_feed text)

-- the first line of a text; if it is not the last, the others are those of what is left, which is shorter
abbrev pub IsNextLine : List ℕ → List ℕ → Bool → Option (List ℕ) → Type 0
IsNextLine text line true left =
    (rest : List ℕ) × (left ≡ Some rest) × (lines_of text ≡ line ∷ lines_of rest) × (length rest < length text)
IsNextLine text line false left = lines_of text ≡ line ∷ []

-- the bytes are more than 64 bits count, or are not told: only then a line is not read for a failure
abbrev pub MayFail : Option (List ℕ) → Type 0
MayFail left = IfSome left (λ text. 18446744073709551615 ≤ length text)

-- what a reader of lines has: the line, and the bytes behind it, if they are told
pub record Lines : Type 0 where
  pub line : List ℕ
  pub left : Option (List ℕ)

-- ---- what private functions promise
-- told bytes stay as they are
abbrev pub StaysTold : Option (List ℕ) → Option (List ℕ) → Type 0
StaysTold old new = IfSome old (λ text. new ≡ Some text)

-- told bytes keep their lines, and come to no more
abbrev pub KeepsLines : Option (List ℕ) → Option (List ℕ) → Type 0
KeepsLines old new =
    IfSome old (λ text. (rest : List ℕ) × (new ≡ Some rest) × (lines_of text ≡ lines_of rest) × (length rest ≤ length text))

-- of told bytes at least so many are taken
abbrev pub HasTaken : ℕ → Option (List ℕ) → Option (List ℕ) → Type 0
HasTaken count old new = IfSome old (λ text. (rest : List ℕ) × (new ≡ Some rest) × (count + length rest ≤ length text))
