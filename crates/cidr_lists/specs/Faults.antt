-- The lines in error of lists, each with its number, and what is told of them.
use Rattle.std.specs.Prelude.{◌≡◌, ◌⊎◌, ℕ, ◌+◌, List, [], ◌∷◌, ◌++◌, Option}
use Rattle.std.specs.List.{flat_map}
use Rattle.cidr.specs.declared.cidr.combined.IpCidr.{IpCidr}
use Rattle.cidr_lists.specs.Entries.{HasNoHost, LineHas}
use Rattle.cidr_lists.specs.Lists.{Text, IsBadBy, SaysBy, bits_in, lines_of}
use Rattle.cidr_lists.specs.Forms.{IsBadRow, RowSays}
use Rattle.cidr_lists.specs.declared.entries.Entry.{Entry}
use Rattle.cidr_lists.specs.declared.errors.LineError.{LineError}
use Rattle.cidr_lists.specs.declared.forms.ListKind.{ListKind}
use Rattle.cidr_lists.specs.declared.forms.ListKind.TheVariants as kind
use Rattle.cidr_lists.specs.declared.records.ListForm.{ListForm}
use Rattle.cidr_lists.specs.Messages.{fault_line}

-- the line is not in error
abbrev pub IsSound : ListKind → ListForm → List ℕ → Type 0
IsSound kind.Networks list line = (said : List IpCidr) × SaysBy list line said
IsSound kind.Hosts list line = (file : List ℕ) × (number : ℕ) × (one : Option Entry) × LineHas file number line one
IsSound (kind.Rows form) list line = (said : Option (IpCidr × List ℕ)) × RowSays form (bits_in list) line said

-- the line is in error, and this is its error
abbrev pub IsFaulty : ListKind → ListForm → List ℕ → LineError → Type 0
IsFaulty kind.Networks list line e = IsBadBy list line e
IsFaulty kind.Hosts list line e = HasNoHost line e
IsFaulty (kind.Rows form) list line e = IsBadRow form (bits_in list) line e

-- the errors of lines of which the first has this number: each with the number of its line, in their order
abbrev pub AreErrors : ListKind → ListForm → ℕ → List (List ℕ) → List (ℕ × LineError) → Type 0
AreErrors kind list number [] errors = errors ≡ []
AreErrors kind list number (line ∷ lines) errors =
    (IsSound kind list line × AreErrors kind list (number + 1) lines errors)
    ⊎ ((e : LineError) × (rest : List (ℕ × LineError)) × IsFaulty kind list line e × AreErrors kind list (number + 1) lines rest
    × (errors ≡ (number, e) ∷ rest))

-- what is told of lists of these names and texts: a line for each line in error
abbrev pub AreTellings : ListKind → List (List ℕ) → List Text → List ℕ → Type 0
AreTellings kind [] [] messages = messages ≡ []
AreTellings kind [] (text ∷ texts) messages = ⊥
AreTellings kind (file ∷ files) [] messages = ⊥
AreTellings kind (file ∷ files) (text ∷ texts) messages = (errors : List (ℕ × LineError)) × (rest : List ℕ)
    × AreErrors kind text.form 1 (lines_of text.bytes) errors × AreTellings kind files texts rest
    × (messages ≡ flat_map (fault_line file) errors ++ rest)

-- the lines in error are told of some first lines of a list
abbrev pub IsPartTold : ListKind → List ℕ → Text → List ℕ → Type 0
IsPartTold kind file text lines = (before after : List (List ℕ)) × (lines_of text.bytes ≡ before ++ after)
    × (errors : List (ℕ × LineError)) × AreErrors kind text.form 1 before errors × (lines ≡ flat_map (fault_line file) errors)
