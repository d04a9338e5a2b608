-- What a call of a library found, and what C gets of it.
use Rattle.std.proofs.Common.{◌≡◌, ◌↔◌, ℕ, Bool, Option, Some, None, inl, inr, refl, sym, subst, arith}
use Rattle.std.specs.Prelude.{IsTrue, MatchOption}
use Rattle.cidr_c.specs.calls.Calls.{IsFoundOrNone, IsSought, IsYesOrNo}

-- what was found of n, where m is the same
pub sought : {P A N : Type 0} (IsTaken : Type 0) (IsNone : N → Type 0) (IsValue : P → Type 0) (value_in : P → A) (Holds : N → A → Type 0)
    (n m : N) (r : Option A) (old new : P) (code : ℕ) → IsTaken × (n ≡ m) → MatchOption r (IsNone n) (Holds n)
    → IsFoundOrNone IsValue value_in r old new code → IsSought IsTaken (IsNone m) IsValue value_in (Holds m) old new code
sought {P} {A} {N} IsTaken IsNone IsValue value_in Holds n m (Some a) old new code taken holds put = record {
  found = λ _. (taken.0, put.1, subst (λ (k : N). Holds k (value_in new)) taken.1 (subst (λ (x : A). Holds n x) (sym put.2) holds));
  none = λ z. absurd (omega (arith, z, put.0));
  refused = λ z. absurd (omega (arith, z, put.0));
  codes = inl put.0;
  stays = λ other. absurd (other put.0);
}
sought IsTaken IsNone IsValue value_in Holds n m None old new code taken none put = record {
  found = λ z. absurd (omega (arith, z, put.0));
  none = λ _. (taken.0, subst IsNone taken.1 none);
  refused = λ z. absurd (omega (arith, z, put.0));
  codes = inr (inl put.0);
  stays = λ _. put.1;
}

-- what the call does not take
pub not_taken : {P A : Type 0} (IsTaken IsNone : Type 0) (IsValue : P → Type 0) (value_in : P → A) (Holds : A → Type 0) (old : P)
    → ¬ IsTaken → IsSought IsTaken IsNone IsValue value_in Holds old old 10
not_taken IsTaken IsNone IsValue value_in Holds old other = record {
  found = λ z. absurd (omega (arith, z));
  none = λ z. absurd (omega (arith, z));
  refused = λ _. other;
  codes = inr (inr refl);
  stays = λ _. refl;
}

-- yes or no about a, where b is the same
pub answered : {A : Type 0} (IsTaken : Type 0) (Holds : A → Type 0) (a b : A) (t : Bool) (code : ℕ) → IsTaken × (a ≡ b)
    → IsTrue t ↔ Holds a → IsYesOrNo code (IsTrue t) → IsYesOrNo code (IsTaken × Holds b)
answered IsTaken Holds a b t code taken is told = (
  told.0,
  (
    λ one. (taken.0, subst Holds taken.1 (is.0 (told.1.0 one))),
    λ all. told.1.1 (is.1 (subst Holds (sym taken.1) all.1)),
  ),
)

-- the same about two
pub both_answered : {A B : Type 0} (IsOne IsOther : Type 0) (Holds : A → B → Type 0) (a x : A) (b y : B) (t : Bool) (code : ℕ)
    → IsOne × (a ≡ x) → IsOther × (b ≡ y) → IsTrue t ↔ Holds a b → IsYesOrNo code (IsTrue t) → IsYesOrNo code (IsOne × IsOther × Holds x y)
both_answered {A} {B} IsOne IsOther Holds a x b y t code one other is told =
    let there : Holds a b → Holds x y = λ h. subst (λ (k : A). Holds k y) one.1 (subst (λ (k : B). Holds a k) other.1 h) in
    let back : Holds x y → Holds a b = λ h. subst (λ (k : A). Holds k b) (sym one.1) (subst (λ (k : B). Holds x k) (sym other.1) h) in
    (told.0, (λ is_one. (one.0, other.0, there (is.0 (told.1.0 is_one))), λ all. told.1.1 (is.1 (back all.2))))
