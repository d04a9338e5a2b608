-- What a run gives up for: an allocation or the writing of a file that was refused, or a file that is not told.
use Rattle.std.specs.Prelude.{◌≡◌, ℕ, ◌≤◌, Bool, true, List, length, Option, IfSome}
use Rattle.cidr_lists.specs.Lists.{Text}
use Rattle.netset_commands.specs.declared.errors.CommandError.{CommandError}
use Rattle.netset_commands.specs.declared.errors.CommandError.TheVariants as error
use Rattle.netset_commands.specs.declared.errors.Unsaved.{Unsaved}
use Rattle.netset_commands.specs.declared.errors.Reason.{Reason}
use Rattle.netset_commands.specs.declared.errors.ListReadError.{ListReadError}
use Rattle.netset_commands.specs.declared.errors.ListReadError.TheVariants.{Line, Input, NoMemory}
use Rattle.netset_commands.specs.declared.commands.look.LookError.{LookError}
use Rattle.netset_commands.specs.declared.commands.look.LookError.TheVariants.{Reading, Output}

-- what was refused to a run: an allocation; the writing of a file, and why; and the opening of a file of a name, and why,
-- as far as that is told
pub record Refusals : Type 0 where
  pub memory : Bool
  pub folder : Option Unsaved
  pub files : List ℕ → Option Reason

-- the bytes are about as many as 64 bits count, so that their lines may be more than there are numbers for
abbrev pub AreTooMany : List ℕ → Type 0
AreTooMany bytes = 18446744073709551613 ≤ length bytes

-- a file that can't be read is not told, or is too long
abbrev pub FileMayFail : (List ℕ → Option Text) → List ℕ → Type 0
FileMayFail contents name = IfSome (contents name) (λ text. AreTooMany text.bytes)

-- why a file can't be opened, where that is told
abbrev pub IsToldReason : Option Reason → Reason → Type 0
IsToldReason told why = IfSome told (λ reason. why ≡ reason)

-- a file can't be read, and this is why
abbrev pub FileFails : (List ℕ → Option Text) → (List ℕ → Option Reason) → List ℕ → Reason → Type 0
FileFails contents reasons name why = FileMayFail contents name × IsToldReason (reasons name) why

-- there is no memory only after an allocation was refused, and only some files can't be read, and why
abbrev pub Cause : (List ℕ → Reason → Type 0) → Bool → CommandError → Type 0
Cause Fails refused (error.Input name why) = Fails name.now why
Cause Fails refused error.NoMemory = refused ≡ true
Cause Fails refused e = Unit {0}

-- ---- what private functions promise
-- the same where one text is read
abbrev pub ReadCause : Type 0 → Bool → ListReadError → Type 0
ReadCause Fails refused (Line number e) = Unit {0}
ReadCause Fails refused Input = Fails
ReadCause Fails refused NoMemory = refused ≡ true

-- the bytes that are read are not told, or too many
abbrev pub TextFails : Option (List ℕ) → Type 0
TextFails left = IfSome left AreTooMany

-- the same where addresses are looked up
abbrev pub LookCause : Type 0 → Bool → LookError → Type 0
LookCause Fails refused (Reading e) = ReadCause Fails refused e
LookCause Fails refused Output = Unit {0}
