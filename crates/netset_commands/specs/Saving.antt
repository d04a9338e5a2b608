-- What a folder tells of the files that are written in it, each whole.
use Rattle.std.specs.Prelude.{◌≡◌, ℕ, Bool, true, false, List, [], ◌∷◌, ◌++◌, Option, Some, None, Result, Ok, Err}
use Rattle.netset_commands.specs.declared.errors.Unsaved.{Unsaved}
use Rattle.netset_commands.specs.declared.errors.Unsaved.TheVariants.{Same}

-- what a folder tells: the files that were written, each with its name and its bytes, in order, and whether two names were those
-- of one file before any was written
pub record Told : Type 0 where
  pub files : List (List ℕ × List ℕ)
  pub are_one : List ℕ → List ℕ → Bool

-- the same where this file was written too
abbrev pub with_file : List ℕ → List ℕ → Option Told → Option Told
with_file name bytes None = None
with_file name bytes (Some told) = Some (record { files = told.files ++ (name, bytes) ∷ []; are_one = told.are_one })

-- the file of a name is another than the one that was read, as far as this is told
abbrev pub IsOther : Option Told → Option (List ℕ) → List ℕ → Type 0
IsOther (Some told) (Some read) name = told.are_one read name ≡ false
IsOther told read name = Unit {0}

-- a file is not written for this reason: as the one that was read only if it is
abbrev pub IsReason : Option Told → Unsaved → Option (List ℕ) → List ℕ → Type 0
IsReason (Some told) Same (Some read) name = told.are_one read name ≡ true
IsReason (Some told) Same None name = ⊥
IsReason told why read name = Unit {0}

-- the file is written whole, in place of the one that had its name and was not the one that was read, or nothing is
abbrev pub Saves : Option Told → Option Told → Option (List ℕ) → List ℕ → List ℕ → Result (Unit {0}) Unsaved → Type 0
Saves old new read name bytes (Ok _) = (new ≡ with_file name bytes old) × IsOther old read name
Saves old new read name bytes (Err why) = (new ≡ old) × IsReason old why read name
