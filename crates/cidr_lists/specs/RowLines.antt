-- Rows of prefix lists as Cisco IOS and FRR read them, a row a line and without numbers: `ip prefix-list NAME permit 10.0.0.0/8 ge 16`.
use Rattle.std.specs.Prelude.{◌≡◌, ◌≢◌, ◌==◌, ℕ, ◌^◌, ◌<◌, ◌≤◌, Bool, false, if◌then◌else◌, List, [], ◌∷◌, ◌++◌, codes, decimal, length, map, slice_index, Option, None}
use Rattle.std.specs.Char.{is_ascii_whitespace}
use Rattle.std.specs.List.{flat_map}
use Rattle.cidr.specs.model.Network.{width_of}
use Rattle.cidr.specs.texts.Printed.{forced_text}
use Rattle.cidr.specs.declared.family.Family.{Family}
use Rattle.cidr_routes.specs.declared.lists.Row.{Row}
use Rattle.cidr_lists.specs.Printing.{line}
use Rattle.cidr_lists.specs.ListTexts.{HaveNumberedRows, RowLinesSay, numbered_of}
use Rattle.cidr_lists.specs.PrefixLists.{family_word}
use Rattle.cidr_lists.specs.Rules.{action_text}
use Rattle.cidr_lists.specs.declared.prefix_lists.ListChange.{ListChange}
use Rattle.cidr_lists.specs.declared.prefix_lists.NumberedRows.{NumberedRows}

-- words, each behind a space, and with a space between two
abbrev pub spaced : List (List ℕ) → List ℕ
spaced words = flat_map (λ word. codes " " ++ word) words

abbrev pub joined : List (List ℕ) → List ℕ
joined [] = []
joined (word ∷ words) = word ++ spaced words

-- the greatest length, unless it is the one that is meant without `le`; and both lengths
abbrev pub le_words : ℕ → ℕ → List (List ℕ)
le_words without high = if high == without then [] else codes "le" ∷ decimal high ∷ []

abbrev pub length_words : ℕ → ℕ → ℕ → ℕ → List (List ℕ)
length_words len width low high = if low == len then le_words len high else codes "ge" ∷ decimal low ∷ le_words width high

-- a row of the list of a name
abbrev pub row_words : Family → List ℕ → Row (List Bool) → List (List ℕ)
row_words family name row = family_word family ∷ codes "prefix-list" ∷ name ∷ action_text row.action ∷ forced_text family row.network
    ∷ length_words (length row.network) (width_of family) row.low row.high

abbrev pub row_line : Family → List ℕ → Row (List Bool) → List ℕ
row_line family name row = line (joined (row_words family name row))

-- rows of a family whose networks have these bits
abbrev pub bits_row : {C : Type 0} → (C → List Bool) → Row C → Row (List Bool)
bits_row bits row = record { action = row.action; network = bits row.network; low = row.low; high = row.high }

abbrev pub row_lines : {C : Type 0} → Family → (C → List Bool) → List ℕ → List (Row C) → List ℕ
row_lines family bits name rows = flat_map (λ row. row_line family name (bits_row bits row)) rows

-- ---- read back
-- a name has no white space, and leaves room in its line
pub record IsListName (name : List ℕ) : Type 0 where
  pub some : name ≢ []
  pub plain : (i : ℕ) → i < length name → is_ascii_whitespace (slice_index name i) ≡ false
  pub short : length name ≤ 2 ^ 16

-- the lengths of a row are in order
abbrev pub IsRowOf : Family → Row (List Bool) → Type 0
IsRowOf family row = (length row.network ≤ row.low) × (row.low ≤ row.high) × (row.high ≤ width_of family)

-- no line of a text is in error, and of the list of this name it has just these rows, without numbers
abbrev pub HasJustRows : List ℕ → List ℕ → Family → List (Row (List Bool)) → Type 0
HasJustRows text name family rows = ((said : List (Option (List ℕ) × Option ListChange)) × RowLinesSay text said)
    × ((read : NumberedRows) → HaveNumberedRows name text read
    → (numbered_of read family ≡ map (λ row. record { number = None; row = row }) rows) × ((other : Family) → other ≢ family → numbered_of read other ≡ []))
