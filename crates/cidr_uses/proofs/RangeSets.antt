-- The set of some ranges, and one more.
use Rattle.std.proofs.Common.{◌≡◌, ◌↔◌, ◌⊎◌, ℕ, Bool, List, [], ◌∷◌, ◌++◌, length, map, sym, ap, ◌∙◌, subst, inl, inr}
use Rattle.std.proofs.lemmas.List.{map-append}
use Rattle.std.proofs.lemmas.List.Elements.{Contains-append_left, Contains-push, Contains-push_cases}
use Rattle.std.specs.List.{Contains}
use Rattle.cidr_table.specs.model.Cover.{Covers}
use Rattle.cidr_sets.specs.model.Ranges.{IsBetween, IsInSome}
use Rattle.cidr_sets.specs.model.Sets.{IsSetOf, IsUnion}

in_one_more : (rs : List (List Bool × List Bool)) (r : List Bool × List Bool) (a : List Bool)
    → IsInSome (rs ++ r ∷ []) a ↔ (IsInSome rs a ⊎ IsBetween r.0 r.1 a)
in_one_more rs r a = (
  λ k. elim (Contains-push_cases rs r k.0 k.1) [ inl d ↦ inl (k.0, d, k.2) | inr e ↦ inr (subst (λ z. IsBetween z.0 z.1 a) (sym e) k.2) ],
  λ k. elim k [
    | inl d ↦ (d.0, Contains-append_left rs (r ∷ []) d.0 d.1, d.2)
    | inr b ↦ (r, Contains-push rs r, b)
  ],
)

module _ {A : Type 0} (view : A → List Bool × List Bool) (items : List A) (x : A) (these part new : List (List Bool))
    (h : IsSetOf 129 (IsInSome (map view items)) these) (k : IsSetOf 129 (IsBetween (view x).0 (view x).1) part)
    (u : IsUnion 129 these part new) where
  pub one_more : IsSetOf 129 (IsInSome (map view (items ++ x ∷ []))) new
  one_more = rw (map-append view items (x ∷ [])) (record {
    reduced = u.reduced;
    exact = λ a la.
        let told = in_one_more (map view items) (view x) a in (
          λ c. told.1 (elim ((u.exact a la).0 c) [ inl d ↦ inl ((h.exact a la).0 d) | inr d ↦ inr ((k.exact a la).0 d) ]),
          λ s. (u.exact a la).1 (elim (told.0 s) [ inl d ↦ inl ((h.exact a la).1 d) | inr d ↦ inr ((k.exact a la).1 d) ]),
        );
  })
