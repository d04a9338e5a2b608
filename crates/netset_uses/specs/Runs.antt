-- What a run of `netset` over texts in memory has done.
use Rattle.std.specs.Prelude.{◌≡◌, ℕ, Bool, false, List, [], ◌∷◌, Option, Some}
use Rattle.std.specs.List.{flat_map}
use Rattle.cidr.specs.model.Network.{HasWidth, width_of}
use Rattle.cidr.specs.declared.family.Family.{Family}
use Rattle.cidr_forwarding.specs.Differences.{AreAnswers}
use Rattle.cidr_io.specs.Writing.{State}
use Rattle.cidr_lists.specs.Faults.{AreTellings}
use Rattle.cidr_lists.specs.Lists.{IsFirstError, Text}
use Rattle.cidr_lists.specs.Lines.{lines_in}
use Rattle.cidr_lists.specs.Messages.{fault_line}
use Rattle.cidr_lists.specs.Printing.{line}
use Rattle.cidr_lists.specs.Rules.{AreRuleChanges}
use Rattle.cidr_lists.specs.Tables.{IsTable}
use Rattle.cidr_lists.specs.declared.columns.Column.{Column}
use Rattle.cidr_lists.specs.declared.columns.Separator.TheVariants.{WhiteSpace, Byte}
use Rattle.cidr_lists.specs.declared.errors.LineError.{LineError}
use Rattle.cidr_lists.specs.declared.forms.ListKind.TheVariants.{Networks}
use Rattle.cidr_lists.specs.declared.forms.RowForm.{RowForm}
use Rattle.cidr_lists.specs.declared.forms.RowLayout.TheVariants.{Fields, Columns}
use Rattle.cidr_lists.specs.declared.formats.LineFormat.{LineFormat}
use Rattle.cidr_lists.specs.declared.formats.LineFormat.TheVariants.{Plain}
use Rattle.netset_commands.specs.Causes.{Refusals}
use Rattle.netset_commands.specs.Commands.{HoldsOf}
use Rattle.netset_commands.specs.Keeping.{IsGoodText}
use Rattle.netset_commands.specs.Matching.{ArePicked, Picks}
use Rattle.netset_commands.specs.Program.{Runs}
use Rattle.netset_commands.specs.Typed.{AnswersTyped}
use Rattle.netset_uses.specs.declared.runs.Finished.{Finished}

-- an output that has these bytes, and has not failed
abbrev pub holding : List ℕ → State
holding bytes = record { taken = Some bytes; failed = false }

-- a run with these arguments over these files, that began with empty outputs
abbrev pub HasRun : List (List ℕ) → (List ℕ → Option (List ℕ)) → Finished → Type 0
HasRun words contents run = AnswersTyped (Some words) contents (holding []) (holding run.out.items) (holding []) (holding run.err.items) run.status
    × ((refused : Refusals) × (closed : Bool) × Runs (Some words) contents refused closed (holding []) (holding run.out.items)
    (holding []) (holding run.err.items) run.status)

-- it has printed this answer, and told nothing
abbrev pub HasPrinted : (List ℕ → Type 0) → Finished → Type 0
HasPrinted IsAnswer run = IsAnswer run.out.items × (run.err.items ≡ [])

-- it has told the first line in error of this file and nothing else, and printed nothing
abbrev pub HasToldLine : List ℕ → Text → Finished → Type 0
HasToldLine file text run = (run.out.items ≡ [])
    × ((number : ℕ) × (e : LineError) × IsFirstError text number e × (run.err.items ≡ fault_line file (number, e)))

-- it has told each line in error of this file, and printed what is made of its text without them
abbrev pub HasSkipped : List ℕ → Text → (List Text → List ℕ → Type 0) → Finished → Type 0
HasSkipped file text Made run = AreTellings Networks (file ∷ []) (text ∷ []) run.err.items
    × ((good : Text) × IsGoodText false Networks text good × Made (good ∷ []) run.out.items)

-- rows of a network and its value, with white space between them, whose values are told in this format
abbrev pub by_words : LineFormat → RowForm
by_words format = record { layout = Fields WhiteSpace; values = format }

-- rows of fields between commas, of which the second is a network and the first its value
abbrev pub by_second : RowForm
by_second = record { layout = Columns (record { separator = Byte 44; network = 1; value = 0 }); values = Plain }

-- the second field of a line between commas
abbrev pub second_field : Column
second_field = record { place = 1; separator = Byte 44 }

-- the lines of a text whose second field lies in a list
abbrev pub AreLinesBySecond : Text → List ℕ → List ℕ → Type 0
AreLinesBySecond networks text answer = HoldsOf networks (λ IsIn. (picked : List (List ℕ) × List (List ℕ))
    × ArePicked false (Picks false second_field IsIn false) (lines_in text) picked × (answer ≡ flat_map line picked.0))

-- two texts say tables, and each address has the same value in both, or none; nothing is told
abbrev pub GiveSameValues : Text → Text → List ℕ → Type 0
GiveSameValues old new answer = (before after : Family → List (List Bool × List ℕ)) × IsTable (by_words Plain) old before × IsTable (by_words Plain) new after
    × ((family : Family) (a : List Bool) → HasWidth (width_of family) a → (values : Option (List ℕ) × Option (List ℕ))
    → AreAnswers (before family) (after family) a values → values.0 ≡ values.1) × (answer ≡ [])

-- nothing is told of what the rules of one list permit and those of the other do not
abbrev pub ArePermittedTheSame : Text → Text → List ℕ → Type 0
ArePermittedTheSame old new answer = AreRuleChanges Plain old new answer × (answer ≡ [])
