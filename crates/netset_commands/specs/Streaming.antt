-- A file that is read line by line, and not to its end.
use Rattle.std.specs.Prelude.{◌≡◌, ℕ, ◌+◌, true, false, List, ◌∷◌, ◌++◌, length, Result, Err}
use Rattle.cidr_io.specs.Writing.{State, Whole, Part}
use Rattle.netset_commands.specs.declared.output.answers.Verdict.{Verdict}
use Rattle.netset_commands.specs.declared.errors.CommandError.{CommandError}
use Rattle.netset_commands.specs.declared.errors.CommandError.TheVariants as error
use Rattle.cidr_lists.specs.declared.errors.LineError.{LineError}

-- it is an error of reading this file, of memory or of the output
abbrev pub IsOfFile : List ℕ → CommandError → Type 0
IsOfFile file (error.Line name number e) = name.now ≡ file
IsOfFile file (error.Input name why) = name.now ≡ file
IsOfFile file error.NoMemory = Unit {0}
IsOfFile file error.Output = Unit {0}
IsOfFile file e = ⊥

-- lines were read up to some that are left, and this is what those before say
pub record ReadTo {S : Type 0} (Say : List (List ℕ) → S → Type 0) (all read left : List (List ℕ)) (said : S) : Type 0 where
  pub lines : all ≡ read ++ left
  pub are : Say read said

-- what the error says of the lines: if it is one of a line, the first that is left is in error
abbrev pub IsStop : (List (List ℕ) → List ℕ → LineError → Type 0) → List (List ℕ) → List (List ℕ) → CommandError → Type 0
IsStop IsBad read left (error.Line name number e) = (number ≡ length read + 1)
    × (line : List ℕ) × (after : List (List ℕ)) × (left ≡ line ∷ after) × IsBad read line e
IsStop IsBad read left e = Unit {0}

-- lines were read up to some that are left, for this reason, where a line may be in error by those before it, or by itself alone
abbrev pub IsCutBehind : {S : Type 0} → (List (List ℕ) → S → Type 0) → (List (List ℕ) → List ℕ → LineError → Type 0) → List (List ℕ) → S → CommandError → Type 0
IsCutBehind Say IsBad all said e = (read left : List (List ℕ)) × ReadTo Say all read left said × IsStop IsBad read left e

abbrev pub IsCut : {S : Type 0} → (List (List ℕ) → S → Type 0) → (List ℕ → LineError → Type 0) → List (List ℕ) → S → CommandError → Type 0
IsCut Say IsBad all said e = IsCutBehind Say (λ before. IsBad) all said e

-- a text was written; or the output has failed, and a beginning of it was written, none if it had failed before
abbrev pub IsWritten : State → State → List ℕ → CommandError → Type 0
IsWritten old new text error.Output = Part old new text × (old.failed ≡ true → new ≡ old)
IsWritten old new text e = Whole old new text × (new.failed ≡ false)

-- a file was not read to its end, and what belongs to the lines that were read was written
abbrev pub IsCutShort : (List ℕ → CommandError → Type 0) → List ℕ → State → State → Result Verdict CommandError → Type 0
IsCutShort Belongs file old new r = (e : CommandError) × (r ≡ Err e) × IsOfFile file e
    × (answer : List ℕ) × IsWritten old new answer e × Belongs answer e
