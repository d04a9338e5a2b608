-- Where fields end that stand one behind the other: one more, and none.
use Rattle.std.proofs.Common.{◌≡◌, refl, sym, ◌∙◌, ap, arith, ℕ, zero, suc, ◌-◌, ◌<◌, Option, Some, None}
use Rattle.cidr_mmdb.specs.Fields.{◌>>=◌}
use Rattle.cidr_mmdb.specs.Metadata.{end_of_all}

pub all_more : (one : ℕ → Option ℕ) (n at end : ℕ) → 0 < n → one at ≡ Some end → end_of_all one (n - 1) end ≡ end_of_all one n at
all_more one zero at end some e = absurd (omega arith)
all_more one (suc n) at end some e =
    let k : suc n - 1 ≡ n = omega arith in
    ap (λ m. end_of_all one m end) k ∙ ap (λ r. r >>= λ x. end_of_all one n x) (sym e)

pub all_stopped : (one : ℕ → Option ℕ) (n at : ℕ) → 0 < n → one at ≡ None → None ≡ end_of_all one n at
all_stopped one zero at some e = absurd (omega arith)
all_stopped one (suc n) at some e = ap (λ r. r >>= λ x. end_of_all one n x) (sym e)

pub all_done : (one : ℕ → Option ℕ) (n at : ℕ) → n ≡ 0 → Some at ≡ end_of_all one n at
all_done one zero at e = refl
all_done one (suc n) at e = absurd (omega arith)
