-- What some payloads say of a route, and one more.
use Rattle.std.proofs.Common.{◌≡◌, ◌≢◌, ◌↔◌, refl, sym, ap, ◌∙◌, subst, inl, inr, ℕ, ◌≤◌, Bool, List, [], ◌∷◌, ◌++◌, length, Option}
use Rattle.std.proofs.lemmas.List.Elements.{Contains-append_left, Contains-append_right, Contains-push, Contains-push_cases}
use Rattle.std.specs.List.{Contains}
use Rattle.cidr_table.proofs.MapLaws.{contains_first, contains_nothing}
use Rattle.cidr_routes.specs.declared.origins.Payload.{Payload}
use Rattle.cidr_routes.specs.declared.origins.Validity.{Validity}
use Rattle.cidr_routes.specs.declared.origins.Validity.TheVariants.{Valid, InvalidLength, InvalidOrigin, NotFound}
use Rattle.cidr_routes.specs.Origins.{Covers, IsOfOrigin, Matches, IsValidity}

module _ {C : Type 0} (bits : C → List Bool) (route : List Bool) (origin : Option ℕ) where
  module _ (before : List (Payload C)) (p : Payload C) (covers : Covers bits route p) where
    old : (v : Payload C) → Contains before v → Contains (before ++ p ∷ []) v
    old v c = Contains-append_left before (p ∷ []) v c

    -- it matches
    pub one_valid : Matches bits route origin p → IsValidity bits route origin (Contains (before ++ p ∷ [])) Valid
    one_valid m = (p, Contains-push before p, m)

    pub still_valid : IsValidity bits route origin (Contains before) Valid → IsValidity bits route origin (Contains (before ++ p ∷ [])) Valid
    still_valid h = (h.0, old h.0 h.1, h.2)

    -- it is of the route's AS, and the route is too long for it
    too_long : IsOfOrigin bits route origin p → ¬ (length route ≤ p.max_length) → ((v : Payload C) → Contains before v → ¬ (Matches bits route origin v))
        → IsValidity bits route origin (Contains (before ++ p ∷ [])) InvalidLength
    too_long o long none = (
      (p, Contains-push before p, covers, o),
      λ v c m. elim (Contains-push_cases before p v c) [
        | inl d ↦ none v d m
        | inr e ↦ long (subst (λ (x : Payload C). length route ≤ x.max_length) (sym e) m.1)
      ],
    )

    pub one_too_long : IsOfOrigin bits route origin p → ¬ (length route ≤ p.max_length) → (s : Validity) → s ≢ Valid
        → IsValidity bits route origin (Contains before) s → IsValidity bits route origin (Contains (before ++ p ∷ [])) InvalidLength
    one_too_long o long Valid n h = absurd (n refl)
    one_too_long o long InvalidLength n h = too_long o long h.1
    one_too_long o long InvalidOrigin n h = too_long o long (λ v c m. h.1 v c m.0 m.2)
    one_too_long o long NotFound n h = too_long o long (λ v c m. h v c m.0)

    -- it is of another AS
    pub first_other : ¬ (IsOfOrigin bits route origin p) → IsValidity bits route origin (Contains before) NotFound
        → IsValidity bits route origin (Contains (before ++ p ∷ [])) InvalidOrigin
    first_other n h = (
      (p, Contains-push before p, covers),
      λ v c cov o. elim (Contains-push_cases before p v c) [
        | inl d ↦ h v d cov
        | inr e ↦ n (subst (IsOfOrigin bits route origin) (sym e) o)
      ],
    )

    pub one_other : ¬ (IsOfOrigin bits route origin p) → (s : Validity) → s ≢ NotFound → IsValidity bits route origin (Contains before) s
        → IsValidity bits route origin (Contains (before ++ p ∷ [])) s
    one_other n Valid ne h = still_valid h
    one_other n InvalidLength ne h = (
      (h.0.0, old h.0.0 h.0.1, h.0.2, h.0.3),
      λ v c m. elim (Contains-push_cases before p v c) [
        | inl d ↦ h.1 v d m
        | inr e ↦ n (subst (IsOfOrigin bits route origin) (sym e) m.2)
      ],
    )
    one_other n InvalidOrigin ne h = (
      (h.0.0, old h.0.0 h.0.1, h.0.2),
      λ v c cov o. elim (Contains-push_cases before p v c) [
        | inl d ↦ h.1 v d cov o
        | inr e ↦ n (subst (IsOfOrigin bits route origin) (sym e) o)
      ],
    )
    one_other n NotFound ne h = absurd (ne refl)

  -- only those that cover the route count
  pub same_covering : (Held Other : Payload C → Type 0) → ((v : Payload C) → Other v ↔ (Held v × Covers bits route v)) → (s : Validity)
      → IsValidity bits route origin Other s → IsValidity bits route origin Held s
  same_covering Held Other same Valid h = (h.0, ((same h.0).0 h.1).0, h.2)
  same_covering Held Other same InvalidLength h =
      ((h.0.0, ((same h.0.0).0 h.0.1).0, h.0.2, h.0.3), λ v c m. h.1 v ((same v).1 (c, m.0)) m)
  same_covering Held Other same InvalidOrigin h =
      ((h.0.0, ((same h.0.0).0 h.0.1).0, h.0.2), λ v c cov o. h.1 v ((same v).1 (c, cov)) cov o)
  same_covering Held Other same NotFound h = λ v c cov. h v ((same v).1 (c, cov)) cov

  pub none_said : IsValidity bits route origin (Contains []) NotFound
  none_said v c cov = absurd (contains_nothing v c)

  -- one answer fits
  pub one_fits : (Held : Payload C → Type 0) (s t : Validity) → IsValidity bits route origin Held s → IsValidity bits route origin Held t → s ≡ t
  one_fits Held Valid Valid h k = refl
  one_fits Held Valid InvalidLength h k = absurd (k.1 h.0 h.1 h.2)
  one_fits Held Valid InvalidOrigin h k = absurd (k.1 h.0 h.1 h.2.0 h.2.2)
  one_fits Held Valid NotFound h k = absurd (k h.0 h.1 h.2.0)
  one_fits Held InvalidLength Valid h k = absurd (h.1 k.0 k.1 k.2)
  one_fits Held InvalidLength InvalidLength h k = refl
  one_fits Held InvalidLength InvalidOrigin h k = absurd (k.1 h.0.0 h.0.1 h.0.2 h.0.3)
  one_fits Held InvalidLength NotFound h k = absurd (k h.0.0 h.0.1 h.0.2)
  one_fits Held InvalidOrigin Valid h k = absurd (h.1 k.0 k.1 k.2.0 k.2.2)
  one_fits Held InvalidOrigin InvalidLength h k = absurd (h.1 k.0.0 k.0.1 k.0.2 k.0.3)
  one_fits Held InvalidOrigin InvalidOrigin h k = refl
  one_fits Held InvalidOrigin NotFound h k = absurd (k h.0.0 h.0.1 h.0.2)
  one_fits Held NotFound Valid h k = absurd (h k.0 k.1 k.2.0)
  one_fits Held NotFound InvalidLength h k = absurd (h k.0.0 k.0.1 k.0.2)
  one_fits Held NotFound InvalidOrigin h k = absurd (h k.0.0 k.0.1 k.0.2)
  one_fits Held NotFound NotFound h k = refl

  -- ---- payloads that cover the route, one after the other
  module _ (Held : Payload C → Type 0) (all : List (Payload C)) (same : (v : Payload C) → Contains all v ↔ (Held v × Covers bits route v)) where
    -- one that matches tells it at once
    pub told_early : (before behind : List (Payload C)) → all ≡ before ++ behind → (s : Validity) → s ≡ Valid
        → IsValidity bits route origin (Contains before) s → IsValidity bits route origin Held s
    told_early before behind e s v h =
        let k = subst (IsValidity bits route origin (Contains before)) v h in
        subst (IsValidity bits route origin Held) (sym v)
        (k.0, ((same k.0).0 (subst (λ xs. Contains xs k.0) (sym e) (Contains-append_left before behind k.0 k.1))).0, k.2)

    nothing_behind : (xs : List (Payload C)) → xs ++ [] ≡ xs
    nothing_behind [] = refl
    nothing_behind (x ∷ xs) = ap (λ t. x ∷ t) (nothing_behind xs)

    pub told_last : (before : List (Payload C)) → all ≡ before ++ [] → (s : Validity) → IsValidity bits route origin (Contains before) s
        → IsValidity bits route origin Held s
    told_last before e s h =
        same_covering Held (Contains all) same s
        (subst (λ xs. IsValidity bits route origin (Contains xs) s) (sym (e ∙ nothing_behind before)) h)

    pub next_covers : (before behind : List (Payload C)) (p : Payload C) → all ≡ before ++ p ∷ behind → Covers bits route p
    next_covers before behind p e =
        ((same p).0 (subst (λ xs. Contains xs p) (sym e) (Contains-append_right before (p ∷ behind) p (contains_first p behind)))).1

  pub one_by_one : (before behind : List (Payload C)) (p : Payload C) → before ++ p ∷ behind ≡ (before ++ p ∷ []) ++ behind
  one_by_one [] behind p = refl
  one_by_one (x ∷ before) behind p = ap (λ t. x ∷ t) (one_by_one before behind p)
