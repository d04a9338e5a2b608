-- Bytes that begin with a value's own are read as it.
use Rattle.std.proofs.Common.{◌≡◌, ℕ, List, ◌++◌, length, take, Result, Ok, refl, ap, ◌∙◌, take_at}
use Rattle.cidr.specs.bytes.Compact.{ReadsCompact}
use Rattle.cidr.specs.declared.errors.CompactError.{CompactError}

pub reads_front : {V : Type 0} (IsValue : V → Type 0) (bytes_of : V → List ℕ) (IsRefused : List ℕ → CompactError → Type 0) (input : List ℕ) (v : V)
    (r : Result (V × ℕ) CompactError) → ReadsCompact IsValue bytes_of IsRefused input r → IsValue v → (rest : List ℕ) → input ≡ bytes_of v ++ rest → r ≡ Ok (v, length (bytes_of v))
reads_front IsValue bytes_of IsRefused input v r reads is rest e =
    (reads.exactly v (length (bytes_of v))).1 (is, (refl, ap (take (length (bytes_of v))) e ∙ take_at (bytes_of v) rest (length (bytes_of v)) refl))
