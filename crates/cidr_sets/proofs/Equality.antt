-- Lists of networks are equal exactly where they are the same.
use Rattle.std.proofs.Common.{◌≡◌, Bool, true, List, [], ◌∷◌, length, get_or, drop, map, refl, sym, ap, ap₂, ◌∙◌, subst, arith}
use Rattle.std.specs.Bool.{Decides}
use Rattle.std.specs.Cmp.{IsEquivalence, Equal-is}
use Rattle.std.specs.Cmp.Lexicographic.{pointwise, pointwise_decides}
use Rattle.std.specs.Ordering.{is_eq}
use Rattle.std.specs.declared.cmp.Ordering.{Ordering}
use Rattle.cidr.specs.model.Bits.{bit_cmp}
use Rattle.cidr.specs.either.IpAddress.{TellsEqual}
use Rattle.cidr_table.proofs.Beginnings.{cmp_exact}

module _ {C : Type 0} (f : C → List Bool) (determined : (x y : C) → f x ≡ f y → x ≡ y) where
  pub map_same : (xs ys : List C) → map f xs ≡ map f ys → xs ≡ ys
  map_same [] [] e = refl
  map_same [] (y ∷ ys) e = absurd (omega (arith, ap length e))
  map_same (x ∷ xs) [] e = absurd (omega (arith, ap length e))
  map_same (x ∷ xs) (y ∷ ys) e =
      ap₂ (λ z zs. z ∷ zs) (determined x y (ap (λ l. get_or l 0 (f x)) e)) (map_same xs ys (ap (drop 1) e))

  module _ (cmp : C → C → Ordering) (ordered : (x y : C) → cmp x y ≡ bit_cmp (f x) (f y))
      (E : C → C → Bool) (ties : (x y : C) → E x y ≡ is_eq (cmp x y)) (e : IsEquivalence E) where
    element : (x y : C) → Decides (E x y) (x ≡ y)
    element x y = (
      λ t. cmp_exact cmp f ordered determined x y ((Equal-is (cmp x y)).0 (sym (ties x y) ∙ t)),
      λ s. subst (λ z. E x z ≡ true) s (e.refl x),
    )

    pub lists_tell : TellsEqual (pointwise E)
    lists_tell = pointwise_decides element
