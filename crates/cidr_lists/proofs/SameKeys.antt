-- Keys that are the same.
use Rattle.std.proofs.Common.{◌≡◌, sym, ◌∙◌, subst, Bool, is_eq, Equal, Ordering}
use Rattle.std.specs.Bool.{Decides}
use Rattle.std.specs.Cmp.{IsTotalOrder, Equal-is}
use Rattle.std.proofs.lemmas.Cmp.{tied_itself}

-- whether two keys are the same, by their order
pub same_by : {C : Type 0} (cmp : C → C → Ordering) → IsTotalOrder cmp → ((x y : C) → cmp x y ≡ Equal → x ≡ y) → (r : Bool) (a b : C) → r ≡ is_eq (cmp a b)
    → Decides r (a ≡ b)
same_by {C} cmp o exact r a b is = (
  λ e. exact a b ((Equal-is (cmp a b)).0 (sym is ∙ e)),
  λ same. is ∙ (Equal-is (cmp a b)).1 (subst (λ (k : C). cmp a k ≡ Equal) same (tied_itself o a)),
)
