-- What `check` finds in the entries of lists.
use Rattle.std.specs.Prelude.{◌≡◌, ◌≢◌, ◌↔◌, ℕ, ◌<◌, List, [], map, Contains, Result, Ok, Err}
use Rattle.std.specs.List.{flat_map}
use Rattle.std.specs.List.Sorted.{IsStrictlyIncreasing}
use Rattle.cidr_io.specs.Collecting.{Holds}
use Rattle.cidr_io.specs.Writing.{Answered, Part, State, Whole}
use Rattle.cidr_io.specs.declared.sink.OutputFailed.{OutputFailed}
use Rattle.cidr_lists.specs.Entries.{AreAllEntries}
use Rattle.cidr_lists.specs.Lists.{Text}
use Rattle.netset_commands.specs.declared.output.answers.Verdict.{Verdict}
use Rattle.netset_commands.specs.declared.output.answers.Verdict.TheVariants.{Yes, No}
use Rattle.cidr_lists.specs.declared.entries.Entry.{Entry}
use Rattle.cidr_lists.specs.declared.findings.Note.{Note}
use Rattle.cidr_lists.specs.Findings.{order, IsNote, AreNotes, note_line}

-- yes where nothing is found
abbrev pub IsClean : {X : Type 0} → List X → Verdict → Type 0
IsClean found Yes = found ≡ []
IsClean found No = found ≢ []

-- all findings in the lists of these names and texts, one a line
abbrev pub IsCheck : List (List ℕ) → List Text → List ℕ → Verdict → Type 0
IsCheck names texts answer verdict = (entries : List Entry) × AreAllEntries names texts entries
    × (notes : List Note) × AreNotes entries notes × (answer ≡ flat_map note_line notes) × IsClean notes verdict

-- ---- what private functions promise
-- all findings before some order
pub record AreNotesBelow (entries : List Entry) (bound : ℕ) (notes : List Note) : Type 0 where
  pub all : (note : Note) → Contains notes note ↔ (IsNote entries note × (order note < bound))
  pub ordered : IsStrictlyIncreasing (map order notes)

-- these are written, or collected in the block, and the verdict is of them
pub record AreNoted (entries : List Entry) (bound : ℕ) (old new : State) (block : List ℕ) (verdict : Verdict) : Type 0 where
  pub notes : List Note
  pub below : AreNotesBelow entries bound notes
  pub collected : Holds old new block (flat_map note_line notes)
  pub clean : IsClean notes verdict

-- a beginning of all findings was written
abbrev pub AreLost : List Entry → State → State → Type 0
AreLost entries old new = (notes : List Note) × AreNotes entries notes × Part old new (flat_map note_line notes)

-- the findings before some order, or a beginning of all
abbrev pub NotesOn : List Entry → ℕ → State → State → List ℕ → Verdict → Result (Unit {0}) OutputFailed → Type 0
NotesOn entries bound old new block verdict (Ok _) = AreNoted entries bound old new block verdict
NotesOn entries bound old new block verdict (Err e) = AreLost entries old new

-- all findings, or a beginning of them
abbrev pub NotesAll : List Entry → State → State → Result Verdict OutputFailed → Type 0
NotesAll entries old new (Ok verdict) =
    (notes : List Note) × AreNotes entries notes × IsClean notes verdict × Whole old new (flat_map note_line notes)
NotesAll entries old new (Err e) = AreLost entries old new

-- all findings are the answer to a sink, which gets nothing if it had failed before
abbrev pub AnswersNotes : List Entry → State → State → Result Verdict OutputFailed → Type 0
AnswersNotes entries old new (Ok verdict) = (notes : List Note) × AreNotes entries notes × IsClean notes verdict
    × Answered old new (flat_map note_line notes) (Ok tt)
AnswersNotes entries old new (Err e) =
    (notes : List Note) × AreNotes entries notes × Answered old new (flat_map note_line notes) (Err e)
