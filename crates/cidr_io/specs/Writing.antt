-- What a sink that bytes are written to tells of itself, and how an answer is written to it.
use Rattle.std.specs.Prelude.{◌≡◌, ℕ, ◌≤◌, ◌<◌, Bool, true, false, List, [], ◌++◌, length, take, Option, Some, None, Result, Ok, Err}
use Rattle.cidr_io.specs.declared.sink.OutputFailed.{OutputFailed}
use Rattle.std.specs.Io.KnownBytes.{Keeps, Appends}

-- what a sink tells of itself: the bytes that it took, if it tells them, and whether it has failed
pub record State : Type 0 where
  pub taken : Option (List ℕ)
  pub failed : Bool

-- an offer of some bytes: some of them are taken, or none and the sink has failed
abbrev pub Takes : State → State → List ℕ → Option ℕ → Type 0
Takes old new bytes None = Keeps old.taken new.taken × (new.failed ≡ true) × (0 < length bytes)
Takes old new bytes (Some n) = Appends old.taken new.taken (take n bytes) × (new.failed ≡ old.failed) × (n ≤ length bytes) × (0 < length bytes → 0 < n)

-- a whole string was taken, and nothing failed
pub record Whole (old new : State) (text : List ℕ) : Type 0 where
  pub taken : Appends old.taken new.taken text
  pub fine : new.failed ≡ old.failed

-- a beginning of a string was taken, and the sink has failed
pub record Part (old new : State) (text : List ℕ) : Type 0 where
  pub front : List ℕ
  pub rest : List ℕ
  pub beginning : text ≡ front ++ rest
  pub taken : Appends old.taken new.taken front
  pub failed : new.failed ≡ true

-- a string was written, or a beginning of it
abbrev pub Writes : State → State → List ℕ → Result (Unit {0}) OutputFailed → Type 0
Writes old new text (Ok _) = Whole old new text
Writes old new text (Err e) = Part old new text

-- a flush: `true` where it succeeded, and `false` where the sink has failed
abbrev pub Flushes : State → State → Bool → Type 0
Flushes old new true = Whole old new []
Flushes old new false = Part old new []

-- an answer was written to a sink that had not failed, or a beginning of it, and nothing to one that had failed before
abbrev pub Answered : State → State → List ℕ → Result (Unit {0}) OutputFailed → Type 0
Answered old new text (Ok _) = Whole old new text × (new.failed ≡ false)
Answered old new text (Err e) = Part old new text × (old.failed ≡ true → new ≡ old)

-- a line was written whole and flushed, or the sink has failed and a beginning of the line was written, none if it had failed before
abbrev pub Tells : State → State → List ℕ → Type 0
Tells old new line = (r : Result (Unit {0}) OutputFailed) × Answered old new line r
