-- What the payloads before an index say of a route.
use Rattle.std.proofs.Common.{◌≡◌, sym, ◌∙◌, ap, subst, inl, inr, ℕ, ◌+◌, ◌<◌, ◌≤◌, Bool, List, [], ◌∷◌, ◌++◌, get_or, length, map, take, Option}
use Rattle.std.proofs.lemmas.List.{map-append, take_all, take_more}
use Rattle.std.proofs.lemmas.List.Elements.{Contains-append_left, Contains-push_cases}
use Rattle.std.specs.List.{Contains}
use Rattle.cidr_routes.specs.declared.origins.Payload.{Payload}
use Rattle.cidr_routes.specs.declared.origins.Validity.{Validity}
use Rattle.cidr_routes.specs.declared.origins.Validity.TheVariants.{Valid, InvalidLength, InvalidOrigin, NotFound}
use Rattle.cidr_routes.specs.Origins.{Covers, IsValidity}

module _ {C : Type 0} (bits : C → List Bool) (route : List Bool) (origin : Option ℕ) where
  -- one that doesn't cover it changes nothing
  pub one_aside : (before : List (Payload C)) (p : Payload C) → ¬ (Covers bits route p) → (s : Validity)
      → IsValidity bits route origin (Contains before) s → IsValidity bits route origin (Contains (before ++ p ∷ [])) s
  one_aside before p n Valid h = (h.0, Contains-append_left before (p ∷ []) h.0 h.1, h.2)
  one_aside before p n InvalidLength h = (
    (h.0.0, Contains-append_left before (p ∷ []) h.0.0 h.0.1, h.0.2, h.0.3),
    λ v c m. elim (Contains-push_cases before p v c) [
      | inl d ↦ h.1 v d m
      | inr e ↦ n (subst (Covers bits route) (sym e) m.0)
    ],
  )
  one_aside before p n InvalidOrigin h = (
    (h.0.0, Contains-append_left before (p ∷ []) h.0.0 h.0.1, h.0.2),
    λ v c cov o. elim (Contains-push_cases before p v c) [
      | inl d ↦ h.1 v d cov o
      | inr e ↦ n (subst (Covers bits route) (sym e) cov)
    ],
  )
  one_aside before p n NotFound h = λ v c cov. elim (Contains-push_cases before p v c) [
    | inl d ↦ h v d cov
    | inr e ↦ n (subst (Covers bits route) (sym e) cov)
  ]

  module _ {P : Type 0} (of : P → Payload C) (all : List P) where
    abbrev pub Said : ℕ → Validity → Type 0
    Said i s = IsValidity bits route origin (Contains (map of (take i all))) s

    pub one_said : (i : ℕ) (x : P) (s : Validity) → i < length all → x ≡ get_or all i x
        → IsValidity bits route origin (Contains (map of (take i all) ++ of x ∷ [])) s → Said (i + 1) s
    one_said i x s within is h =
        subst (λ (l : List (Payload C)). IsValidity bits route origin (Contains l) s)
        (sym (map-append of (take i all) (x ∷ []))
        ∙ ap (map of) (ap (λ (k : P). take i all ++ k ∷ []) is ∙ sym (take_more all i x within))) h

    pub all_said : (i : ℕ) (s : Validity) → length all ≤ i → Said i s → IsValidity bits route origin (Contains (map of all)) s
    all_said i s past h = subst (λ (l : List P). IsValidity bits route origin (Contains (map of l)) s) (take_all i all past) h
