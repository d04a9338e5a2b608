-- What functions that make the fewest rows of a table promise.
use Rattle.std.specs.Prelude.{◌≡◌, ◌⊎◌, ℕ, Bool, true, false, List, ◌++◌, map, codes, Option, Some, None, Result, Err}
use Rattle.std.specs.List.{Contains, flat_map}
use Rattle.std.specs.Map.{values_of}
use Rattle.cidr.specs.declared.family.Family.{Family}
use Rattle.cidr.specs.declared.family.Family.TheVariants.{Ipv4, Ipv6}
use Rattle.cidr.specs.model.Network.{HasWidth}
use Rattle.cidr.specs.texts.Printed.{forced_text}
use Rattle.cidr_forwarding.specs.Forwarding.{IsSmallest, IsSmallestHoled}
use Rattle.cidr_io.specs.Writing.{State, Answered}
use Rattle.cidr_io.specs.declared.sink.OutputFailed.{OutputFailed}
use Rattle.netset_commands.specs.Numbers.{value_in}
use Rattle.netset_commands.specs.Program.{by_output}
use Rattle.netset_commands.specs.Smallest.{AreFewest, row_line}
use Rattle.netset_commands.specs.declared.commands.smallest.Fewest.{Fewest}
use Rattle.netset_commands.specs.declared.errors.CommandError.{CommandError}
use Rattle.netset_commands.specs.declared.errors.CommandError.TheVariants as error
use Rattle.netset_commands.specs.declared.output.answers.Verdict.{Verdict}
use Rattle.netset_commands.specs.declared.output.answers.Verdict.TheVariants.{Yes}
use Rattle.netset_commands.specs.Rows.{row_text}

-- rows with their numbers, none of which is a hole
abbrev pub with_numbers : {C : Type 0} → List (C × ℕ) → List (C × Option ℕ)
with_numbers {C} rows = map (λ (row : C × ℕ). (row.0, Some row.1)) rows

-- the fewest rows of numbers, without holes, or with holes, which have none
abbrev pub AreFewestNumbers : Bool → ℕ → List (List Bool × ℕ) → List (List Bool × Option ℕ) → Type 0
AreFewestNumbers false w rows fewest = (smallest : List (List Bool × ℕ)) × IsSmallest (HasWidth w) rows smallest × (fewest ≡ with_numbers smallest)
AreFewestNumbers true w rows fewest = IsSmallestHoled (HasWidth w) rows fewest

-- what is written of the value of a row, by its number among the values
abbrev pub told_value : List (List ℕ) → Option ℕ → List ℕ
told_value values None = codes "-"
told_value values (Some number) = value_in values number

-- the line of a row
abbrev pub told_row : {C : Type 0} → (C → List ℕ) → List (List ℕ) → C × Option ℕ → List ℕ
told_row text values row = row_text (text row.0) (told_value values row.1)

-- the lines of all rows
abbrev pub all_rows : Fewest → List ℕ
all_rows fewest = flat_map (told_row (forced_text Ipv4) fewest.numbers) fewest.v4.items ++ flat_map (told_row (forced_text Ipv6) fewest.numbers) fewest.v6.items

-- the lines of the fewest rows of a table
abbrev pub AreFewestLines : Bool → (Family → List (List Bool × List ℕ)) → List ℕ → Type 0
AreFewestLines holes table answer = (fewest : Family → List (List Bool × List ℕ)) × ((family : Family) → AreFewest holes family (table family) (fewest family))
    × (answer ≡ flat_map (row_line Ipv4) (fewest Ipv4) ++ flat_map (row_line Ipv6) (fewest Ipv6))

-- they were told, or there was no memory for them; with holes a table may not have the value that stands for one
abbrev pub TellsFewest : Bool → (Family → List (List Bool × List ℕ)) → Bool → State → State → Result Verdict CommandError → Type 0
TellsFewest holes table refused old new r = ((new ≡ old) × (refused ≡ true) × (r ≡ Err error.NoMemory))
    ⊎ ((answer : List ℕ) × (written : Result (Unit {0}) OutputFailed)
    × ((holes ≡ true → (family : Family) → ¬ (Contains (values_of (table family)) (codes "-"))) → AreFewestLines holes table answer)
    × Answered old new answer written × (r ≡ by_output Yes written))
