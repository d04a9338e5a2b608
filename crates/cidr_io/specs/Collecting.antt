-- Lines that are collected and written in blocks.
use Rattle.std.specs.Prelude.{◌≡◌, ◌⊎◌, ℕ, true, false, List, ◌++◌, Result, Ok, Err}
use Rattle.cidr_io.specs.Writing.{State, Whole, Part}
use Rattle.cidr_io.specs.declared.sink.OutputFailed.{OutputFailed}

-- bytes come behind a block, and what the block loses is written, from its front on
abbrev pub Collects : State → State → List ℕ → List ℕ → List ℕ → Result (Unit {0}) OutputFailed → Type 0
Collects old new block rest bytes (Ok _) = (written : List ℕ) × Whole old new written × (block ++ bytes ≡ written ++ rest)
Collects old new block rest bytes (Err e) = Part old new (block ++ bytes)

-- all of a text that is not in the block was written
abbrev pub Holds : State → State → List ℕ → List ℕ → Type 0
Holds old new block text = (written : List ℕ) × Whole old new written × (text ≡ written ++ block)

-- the same of a sink that is written to as far as it takes lines; or it has failed, and a beginning of the text was
-- written, none if it had failed before
abbrev pub HasSaid : State → State → List ℕ → List ℕ → Type 0
HasSaid old new block text = ((old.failed ≡ false) × Holds old new block text) ⊎ (Part old new text × (old.failed ≡ true → new ≡ old))
