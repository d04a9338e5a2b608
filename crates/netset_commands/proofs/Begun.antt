-- A source whose first byte was read.
use Rattle.std.proofs.Common.{◌≡◌, refl, sym, ◌∙◌, arith, ℕ, Bool, false, List, [], ◌∷◌, ◌==◌, length, slice_set, Option, Some, None}
use Rattle.std.proofs.lemmas.Bool.{true≢false}
use Rattle.std.specs.Io.KnownBytes.{Consumes, prepend_known}
use Rattle.cidr_io.specs.Lines.{Gives}

given_known : (known : Option (List ℕ)) (byte : ℕ) → Consumes (prepend_known (byte ∷ []) known) (prepend_known [] known) (byte ∷ [])
given_known None byte = tt
given_known (Some bytes) byte = refl

-- it is the first that is given
pub first_given : (known : Option (List ℕ)) (byte : ℕ) (buf : List ℕ) (test : Bool) → test ≡ (length buf == 0) → test ≡ false
    → Gives (prepend_known (byte ∷ []) known) (prepend_known [] known) (Some 1) (slice_set buf 0 byte)
first_given known byte [] test is fails = absurd (true≢false (sym is ∙ fails))
first_given known byte (b ∷ buf) test is fails = (omega arith, given_known known byte, λ none. absurd (omega (arith, none)))
