-- The lines of a text.
use Rattle.std.specs.Prelude.{◌≡◌, ℕ, Bool, true, List, [], ◌∷◌}
use Rattle.std.specs.List.{AllZip}
use Rattle.cidr_lists.specs.Lists.{IsTooLong, lines_of}
use Rattle.cidr_lists.specs.declared.errors.LineError.{LineError}
use Rattle.cidr_lists.specs.declared.errors.LineError.TheVariants.{TooLong}

-- ---- lines
-- a part that no line feed ends is no line where it is empty
abbrev pub last_line : List ℕ → List (List ℕ)
last_line [] = []
last_line (byte ∷ part) = (byte ∷ part) ∷ []

-- the lines among the parts between line feeds
abbrev pub lines_among : List (List ℕ) → List (List ℕ)
lines_among [] = []
lines_among (part ∷ []) = last_line part
lines_among (part ∷ next ∷ parts) = part ∷ lines_among (next ∷ parts)

-- the lines of a text, each without its line feed, which the last may lack
abbrev pub lines_in : List ℕ → List (List ℕ)
lines_in text = lines_among (lines_of text)

-- ---- a header
-- of lines, each with what stands beside it, of which the first is a header or not: one thing holds of it, and another of the others
abbrev pub AllBehind : {A B : Type 0} → Bool → (A → B → Type 0) → (A → B → Type 0) → List A → List B → Type 0
AllBehind true IsHeader Says (line ∷ lines) (one ∷ ones) = IsHeader line one × AllZip Says lines ones
AllBehind headed IsHeader Says lines ones = AllZip Says lines ones

-- those behind the header
abbrev pub behind_header : {A : Type 0} → Bool → List A → List A
behind_header true (line ∷ lines) = lines
behind_header headed lines = lines

-- the line behind some others is in error: a header, which has none before it, only where it is too long
abbrev pub IsBadBehind : Bool → (List ℕ → LineError → Type 0) → List (List ℕ) → List ℕ → LineError → Type 0
IsBadBehind true IsBad [] line e = (e ≡ TooLong) × IsTooLong line
IsBadBehind headed IsBad before line e = IsBad line e
