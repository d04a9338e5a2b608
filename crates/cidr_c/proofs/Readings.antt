-- What reading a string gives, from what the library's parser says of it.
use Rattle.std.proofs.Common.{◌≡◌, ℕ, ◌<◌, List, Result, Ok, Err, refl, arith}
use Rattle.std.specs.Prelude.{IsUtf8}
use Rattle.cidr_c.specs.calls.Calls.{IsRead}
use Rattle.cidr_c.specs.declared.values.CValue.{CValue}

module _ {A E : Type 0} (Reads : List ℕ → Result A E → Type 0) (code_of : E → ℕ) (IsValue : CValue → Type 0) (value_in : CValue → A)
    (text read : List ℕ) (is_utf8 : IsUtf8 text) (same : read ≡ text) where
  pub read_value : (old new : CValue) (a : A) → IsValue new → value_in new ≡ a → Reads read (Ok a)
      → IsRead Reads code_of IsValue value_in text old new 0
  read_value old new a is_value e reads = record {
    value = λ _. (is_utf8, is_value, rw (e, ← same) reads);
    utf8 = (λ z. absurd (omega (arith, z)), λ none. absurd (none is_utf8));
    error = λ above. absurd (omega (arith, above));
    stays = λ other. absurd (other refl);
  }

  pub read_error : (old : CValue) (e : E) (code : ℕ) → code ≡ code_of e → 1 < code → Reads read (Err e)
      → IsRead Reads code_of IsValue value_in text old old code
  read_error old e code is above reads = record {
    value = λ z. absurd (omega (arith, z, above));
    utf8 = (λ z. absurd (omega (arith, z, above)), λ none. absurd (none is_utf8));
    error = λ _. (e, is, rw (← same) reads);
    stays = λ _. refl;
  }
