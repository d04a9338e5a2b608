-- The first of the networks of two lists.
use Rattle.std.proofs.Common.{◌≡◌, refl, sym, ap, subst, Bool, true, false, List, [], ◌∷◌}
use Rattle.cidr_lists.specs.Changes.{adds_first, merged, signed}
use Rattle.cidr_lists.specs.declared.changes.Sign.TheVariants.{Plus, Minus}

-- ---- the first of both lists
pub plus_first : {X : Type 0} (bits : X → List Bool) (added lacking rest : List X) (p : X) → adds_first bits added lacking ≡ true → added ≡ p ∷ rest
    → merged bits added lacking ≡ (Plus, p) ∷ merged bits rest lacking
plus_first bits [] lacking rest p first is = cc
plus_first bits (q ∷ added) [] [] p first is = unfold merged in ap (signed Plus) is
plus_first bits (q ∷ added) [] (r ∷ rest) p first is = unfold merged in ap (signed Plus) is
plus_first bits (q ∷ added) (r ∷ lacking) rest p first is =
    subst (λ k. merged bits k (r ∷ lacking) ≡ (Plus, p) ∷ merged bits rest (r ∷ lacking)) (sym is)
    (unfold merged in rw (subst (λ k. adds_first bits k (r ∷ lacking) ≡ true) is first) refl)

pub minus_first : {X : Type 0} (bits : X → List Bool) (added lacking rest : List X) (q : X) → adds_first bits added lacking ≡ false → lacking ≡ q ∷ rest
    → merged bits added lacking ≡ (Minus, q) ∷ merged bits added rest
minus_first bits [] lacking rest q first is = unfold merged in ap (signed Minus) is
minus_first bits (p ∷ added) [] rest q first is = cc
minus_first bits (p ∷ added) (r ∷ lacking) rest q first is =
    subst (λ k. merged bits (p ∷ added) k ≡ (Minus, q) ∷ merged bits (p ∷ added) rest) (sym is)
    (unfold merged in rw (subst (λ k. adds_first bits (p ∷ added) k ≡ false) is first) refl)

pub none_first : {X : Type 0} (bits : X → List Bool) (added lacking : List X) → adds_first bits added lacking ≡ false → lacking ≡ [] → merged bits added lacking ≡ []
none_first bits [] [] first none = unfold merged in refl
none_first bits [] (q ∷ lacking) first none = cc
none_first bits (p ∷ added) [] first none = cc
none_first bits (p ∷ added) (q ∷ lacking) first none = cc
