-- What functions that read lists and tell their lines in error promise.
use Rattle.std.specs.Prelude.{◌≡◌, ℕ, Bool, true, false, List, ◌++◌, Option}
use Rattle.cidr_io.specs.Writing.{State, Tells}
use Rattle.netset_commands.specs.Commands.{AreTold}
use Rattle.netset_commands.specs.Keeping.{AreGoodKept, AreKept, HasTold, IsAny, IsBegun, IsLoadError, lined}
use Rattle.cidr_lists.specs.Faults.{AreTellings}
use Rattle.cidr_lists.specs.Lists.{Text}
use Rattle.netset_commands.specs.declared.errors.CommandError.{CommandError}
use Rattle.netset_commands.specs.declared.input.keeping.Kept.{Kept}
use Rattle.cidr_lists.specs.declared.forms.ListKind.{ListKind}

-- lists were read, and their lines in error told; where there is none, this is what they say, and, if that is wanted, what is
-- read without them
abbrev pub AreListsLoaded : Bool → Bool → (List ℕ → Option Text) → ListKind → List (List ℕ) → State → State → List Kept → Bool → Type 0
AreListsLoaded takes skips contents kind names old new lists found =
    (lines : List ℕ) × HasTold (lined takes contents) kind names old new lines × IsAny found lines × (found ≡ false → AreKept contents lists)
    × (skips ≡ true → AreGoodKept takes contents kind names lists)

-- the lines in error were told of those before the first that was not read, and of a beginning of that one
abbrev pub IsUnloaded : (List ℕ → Option Text) → ListKind → List (List ℕ) → State → State → CommandError → Type 0
IsUnloaded contents kind names old new e = (before after : List (List ℕ)) × (names ≡ before ++ after) × IsLoadError after e
    × (front rest : List ℕ) × Tells old new (front ++ rest)
    × ((texts : List Text) → AreTold contents before texts → AreTellings kind before texts front) × IsBegun contents kind after rest
