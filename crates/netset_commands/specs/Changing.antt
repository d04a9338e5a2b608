-- What a function that tells the changes from one set to another promises.
use Rattle.std.specs.Prelude.{◌≡◌, ◌⊎◌, Bool, true, Result, Err}
use Rattle.cidr.specs.declared.family.Family.{Family}
use Rattle.cidr_io.specs.Writing.{State, Answered}
use Rattle.cidr_io.specs.declared.sink.OutputFailed.{OutputFailed}
use Rattle.cidr_sets.specs.model.Sets.{IsSetOf}
use Rattle.cidr_lists.specs.Changes.{printed_changes}
use Rattle.cidr_lists.specs.Sets.{IsInSets, Steps, networks_of}
use Rattle.cidr_lists.specs.declared.formats.LineFormat.{LineFormat}
use Rattle.cidr_lists.specs.declared.sets.Sets.{Sets}
use Rattle.cidr_lists.specs.declared.sets.Step.TheVariants.{Difference}
use Rattle.netset_commands.specs.Answering.{AreSame, changed}
use Rattle.netset_commands.specs.Program.{by_output}
use Rattle.netset_commands.specs.declared.errors.CommandError.{CommandError}
use Rattle.netset_commands.specs.declared.errors.CommandError.TheVariants as error
use Rattle.netset_commands.specs.declared.output.answers.Verdict.{Verdict}

-- these are the addresses that one has and another has not
abbrev pub AreMore : Sets → Sets → Sets → Type 0
AreMore one other more = (family : Family) → IsSetOf 129 (λ a. Steps Difference (IsInSets one family a) (IsInSets other family a)) (networks_of more family)

-- what the second one adds to the first one, and what it lacks, was told, or there was no memory for it
abbrev pub TellsChanges : LineFormat → Sets → Sets → Bool → State → State → Result Verdict CommandError → Type 0
TellsChanges format before after refused old new r = ((new ≡ old) × (refused ≡ true) × (r ≡ Err error.NoMemory))
    ⊎ ((added lacking : Sets) × (verdict : Verdict) × (written : Result (Unit {0}) OutputFailed) × AreMore after before added × AreMore before after lacking
    × AreSame (changed added lacking) verdict × Answered old new (printed_changes format (changed added lacking)) written × (r ≡ by_output verdict written))
