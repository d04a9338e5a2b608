-- How an answer is written.
use Rattle.std.specs.Prelude.{◌≡◌, ℕ, List, true, false, Result, Ok, Err}
use Rattle.cidr_io.specs.Writing.{State, Whole, Part}
use Rattle.cidr_tool.specs.declared.errors.ToolError.{ToolError}
use Rattle.cidr_tool.specs.declared.errors.ToolError.TheVariants.{Output}

-- an answer was written to a sink that had not failed, or a beginning of it, and nothing to one that had failed before
abbrev pub IsAnswerWritten : State → State → List ℕ → Result (Unit {0}) ToolError → Type 0
IsAnswerWritten old new text (Ok _) = Whole old new text × (new.failed ≡ false)
IsAnswerWritten old new text (Err e) = (e ≡ Output) × Part old new text × (old.failed ≡ true → new ≡ old)
