-- What a run leaves in the folder: the file that `compile` writes, or that of `-o`.
use Rattle.std.specs.Prelude.{◌≡◌, ◌≢◌, ◌⊎◌, ℕ, ◌≤◌, Bool, List, Option, Some, None, Result, Ok, Err}
use Rattle.cidr.specs.declared.family.Family.{Family}
use Rattle.cidr_io.specs.Arguments.{AreArguments}
use Rattle.cidr_lists.specs.Lists.{Text}
use Rattle.cidr_lists.specs.Tables.{IsTable}
use Rattle.cidr_lists.specs.declared.forms.RowForm.{RowForm}
use Rattle.cidr_io.specs.Writing.{State}
use Rattle.netset_commands.specs.Arguments.{Line, line_request}
use Rattle.netset_commands.specs.Causes.{Refusals}
use Rattle.netset_commands.specs.Commands.{Request, Compile, IsAnswer}
use Rattle.netset_commands.specs.Compiled.{IsTableFile}
use Rattle.netset_commands.specs.Program.{AnswersRequest, IsCaused, answer_status, contents_of}
use Rattle.netset_commands.specs.Saving.{IsOther, Told, with_file}
use Rattle.netset_commands.specs.declared.errors.CommandError.{CommandError}
use Rattle.netset_commands.specs.declared.output.answers.Verdict.{Verdict}
use Rattle.netset_commands.specs.declared.output.answers.Verdict.TheVariants.{Yes, No}

-- a file of the rows of a table was written under this name, and no other, and not in place of the table
abbrev pub IsSaved : RowForm → Option Text → List ℕ → List ℕ → Option Told → Option Told → Type 0
IsSaved form contents table name old new = (bytes : List ℕ) × (new ≡ with_file name bytes old) × IsOther old (Some table) name
    × ((text : Text) → contents ≡ Some text → (rows : Family → List (List Bool × List ℕ)) × IsTable form text rows × IsTableFile rows bytes)

-- what a request leaves in the folder, by its answer: only `compile` writes a file, if it has an answer
abbrev pub Leaves : (List ℕ → Option Text) → Request → Option Told → Option Told → Result Verdict CommandError → Type 0
Leaves contents (Compile form table name) old new (Ok Yes) = IsSaved form (contents table) table name old new
Leaves contents (Compile form table name) old new (Ok No) = ⊥
Leaves contents request old new r = new ≡ old

-- the same by the exit status of a run
abbrev pub LeavesBy : (List ℕ → Option Text) → Request → Option Told → Option Told → ℕ → Type 0
LeavesBy contents (Compile form table name) old new status =
    ((status ≡ 0) × IsSaved form (contents table) table name old new) ⊎ ((status ≢ 0) × (new ≡ old))
LeavesBy contents request old new status = new ≡ old

-- the same where the answer goes to the file of a name: it is written there where the status is that of an answer, and else
-- nothing is
abbrev pub LeavesTo : Option (List ℕ) → (List ℕ → Option Text) → Request → Option Told → Option Told → ℕ → Type 0
LeavesTo None contents request old new status = LeavesBy contents request old new status
LeavesTo (Some name) contents request old new status =
    ((answer : List ℕ) × (verdict : Verdict) × IsAnswer contents request answer verdict × (status ≡ answer_status verdict) × (new ≡ with_file name answer old))
    ⊎ ((2 ≤ status) × (new ≡ old))

-- the same of a line of arguments, or of words that are none
abbrev pub LeavesFound : Result Line (List ℕ) → (List ℕ → Option (List ℕ)) → Option Told → Option Told → ℕ → Type 0
LeavesFound (Ok (reading, (target, request))) contents old new status = LeavesTo target (contents_of reading request contents) request old new status
LeavesFound (Err line) contents old new status = new ≡ old

-- What a run leaves in the folder, from its arguments, the files that it reads and its exit status. A run whose status is
-- that of no answer leaves it as it was.
abbrev pub RunLeaves : Option (List (List ℕ)) → (List ℕ → Option (List ℕ)) → Option Told → Option Told → ℕ → Type 0
RunLeaves words contents old new status =
    ((given : List (List ℕ)) × AreArguments words given × LeavesFound (line_request given) contents old new status)
    ⊎ ((2 ≤ status) × (new ≡ old))

-- ---- what private functions promise
-- what becomes of a request, of the sink and of the folder, and for which cause it is given up
pub record Ends (contents : List ℕ → Option Text) (refused : Refusals) (request : Request) (old new : State) (was now : Option Told)
    (r : Result Verdict CommandError) : Type 0 where
  pub answers : AnswersRequest contents request old new r
  pub cause : IsCaused contents refused request r
  pub leaves : Leaves contents request was now r
