-- ---- what private functions promise each other: what is written so far
use Rattle.std.specs.Prelude.{◌≡◌, ℕ, List, ◌++◌, Option, Some, None, Result, Ok, Err}
use Rattle.cidr_mmdb.specs.Fields.{◌>>=◌}
use Rattle.cidr_mmdb.specs.Json.{IsUnwritten}
use Rattle.cidr_mmdb.specs.declared.errors.JsonError.{JsonError}
use Rattle.cidr_mmdb.specs.declared.errors.JsonError.TheVariants.{Malformed, TooLong, NoMemory}

-- where a field ends, and what is written then, by what is read with what was written before in front
abbrev pub Ends : Result ℕ JsonError → ℕ → List ℕ → Option (List ℕ × ℕ) → Type 0
Ends (Ok end) limit written read = read ≡ Some (written, end)
Ends (Err error) limit written read = IsUnwritten limit read error

-- the same of a text that is written whole
abbrev pub Appends : {A : Type 0} → Result A JsonError → List ℕ → List ℕ → Option (List ℕ) → Type 0
Appends (Ok x) old new text = (text >>= λ t. Some (old ++ t)) ≡ Some new
Appends (Err Malformed) old new text = text ≡ None
Appends (Err TooLong) old new text = ⊥
Appends (Err NoMemory) old new text = Unit {0}
