-- The longest network of a table that an address is in, and the value of that.
use Rattle.std.specs.Prelude.{◌≡◌, ℕ, Bool, true, if◌then◌else◌, List, ◌∷◌, ◌++◌, Option, Some, None}
use Rattle.std.specs.List.{AllZip}
use Rattle.cidr.specs.declared.family.Family.{Family}
use Rattle.cidr_lists.specs.Lines.{IsBadBehind}
use Rattle.cidr_lists.specs.Lists.{IsTooLong, Text, IsFirstBad, bits_in, lines_of}
use Rattle.netset_commands.specs.Compiled.{SaysTable}
use Rattle.netset_commands.specs.Streaming.{IsCutBehind}
use Rattle.netset_commands.specs.declared.output.answers.Verdict.{Verdict}
use Rattle.netset_commands.specs.declared.output.answers.Verdict.TheVariants.{Yes, No}
use Rattle.netset_commands.specs.declared.errors.CommandError.{CommandError}
use Rattle.netset_commands.specs.declared.errors.CommandError.TheVariants as error
use Rattle.cidr_lists.specs.Forms.{IsBadRow, RowSays}
use Rattle.cidr_lists.specs.LookUps.{IsBadAsked, LinesTell, lines_by, told_line}
use Rattle.cidr_lists.specs.declared.fields.Asked.{Asked}
use Rattle.cidr_lists.specs.declared.forms.RowForm.{RowForm}
use Rattle.cidr_lists.specs.declared.objects.Telling.{Telling}

-- why the table of a file is not read: its first line in error, the file or memory
abbrev pub IsUnreadTable : RowForm → Option Text → List ℕ → CommandError → Type 0
IsUnreadTable form contents name (error.Line file number e) = (file.now ≡ name) × ((text : Text) → contents ≡ Some text
    → IsFirstBad (AllZip (RowSays form (bits_in text.form))) (IsBadRow form (bits_in text.form)) (lines_of text.bytes) number e)
IsUnreadTable form contents name (error.Input file why) = file.now ≡ name
IsUnreadTable form contents name error.NoMemory = Unit {0}
IsUnreadTable form contents name e = ⊥

-- yes where an address has one
abbrev pub verdict_of : Bool → Verdict
verdict_of found = if found then Yes else No

-- what lines tell, of which the first is a header or not: it is told as a line without an address, whatever it says, and may
-- not be too long
abbrev pub HeadedTell : Bool → Telling → Asked → (Family → List (List Bool × List ℕ)) → List (List ℕ) → List ℕ × Bool → Type 0
HeadedTell true telling asked table (header ∷ lines) told = (rest : List ℕ) × LinesTell telling asked table lines (rest, told.1)
    × ¬ (IsTooLong header) × (told.0 ≡ told_line telling asked header None ++ rest)
HeadedTell headed telling asked table lines told = LinesTell telling asked table lines told

-- the addresses of a text, looked up in the table that another file says, and told by themselves, with their lines or as objects
abbrev pub IsLook : Bool → Telling → Asked → RowForm → Text → List ℕ → List ℕ → Verdict → Type 0
IsLook headed telling asked form rows text answer verdict = (table : Family → List (List Bool × List ℕ)) × SaysTable form rows table
    × (found : Bool) × HeadedTell headed telling asked table (lines_by telling text) (answer, found) × (verdict ≡ verdict_of found)

-- the same of the lines that were read, where the text was not read to its end, for this reason
abbrev pub IsLookCut : Bool → Telling → Asked → RowForm → Text → List ℕ → List ℕ → CommandError → Type 0
IsLookCut headed telling asked form rows text answer e = (table : Family → List (List Bool × List ℕ)) × SaysTable form rows table
    × (found : Bool) × IsCutBehind (HeadedTell headed telling asked table) (IsBadBehind headed (IsBadAsked asked)) (lines_by telling text) (answer, found) e
