-- What a run of the program does with its arguments, standard output and standard error.
use Rattle.std.specs.Prelude.{◌≡◌, ℕ, Bool, true, List, Option, Result, Err, ◌⊎◌}
use Rattle.cidr_tool.specs.Answer.{Answers}
use Rattle.cidr_io.specs.Arguments.{AreArguments, IsNotText}
use Rattle.cidr_io.specs.Writing.{State, Tells}
use Rattle.cidr_tool.specs.Report.{Reports, status_of, no_memory_line}
use Rattle.cidr_tool.specs.declared.errors.ToolError.{ToolError}
use Rattle.cidr_tool.specs.declared.errors.ToolError.TheVariants.{Usage}

-- all the arguments are answered; where one is not UTF-8, it is usage and nothing is written
abbrev pub AnswersAll : Option (List (List ℕ)) → State → State → Result (Unit {0}) ToolError → Type 0
AnswersAll told old new r =
    ((arguments : List (List ℕ)) × AreArguments told arguments × Answers arguments old new r)
    ⊎ ((shown : List ℕ) × IsNotText told shown × (r ≡ Err Usage) × (new ≡ old))

-- A run, from the arguments to the exit status: standard output gets the answer, standard error the line that
-- belongs to it. Where an allocation was refused, output gets nothing and error may say so.
abbrev pub Runs : Option (List (List ℕ)) → Bool → State → State → State → State → ℕ → Type 0
Runs told refused out new_out err new_err status =
    ((r : Result (Unit {0}) ToolError) × AnswersAll told out new_out r × Reports r err new_err × (status ≡ status_of r))
    ⊎ ((refused ≡ true) × (new_out ≡ out) × Tells err new_err no_memory_line × (status ≡ 3))
