-- Lists of candidate values: which are in both, and what two halves have together.
use Rattle.std.proofs.Common.{◌≡◌, ◌⊎◌, Bool, true, false, cond, List, [], ◌∷◌, ◌++◌, refl, sym, ap, ◌∙◌, subst, inl, inr, true≢false}
use Rattle.std.specs.Bool.{Decides}
use Rattle.cidr_forwarding.specs.Choices.{or_else, is_listed}
use Rattle.std.specs.List.{filter}

module _ {X : Type 0} (same : X → X → Bool) where
  module _ (decides : (x y : X) → Decides (same x y) (x ≡ y)) where
    pub same_itself : (x : X) → same x x ≡ true
    same_itself x = (decides x x).1 refl

    pub has_first : (x : X) (xs : List X) → is_listed same (x ∷ xs) x ≡ true
    has_first x xs = rw (same_itself x)

    pub has_cases : (y : X) (ys : List X) (x : X) → is_listed same (y ∷ ys) x ≡ true → (y ≡ x) ⊎ (is_listed same ys x ≡ true)
    has_cases y ys x h = elim (same y x) as (λ b. same y x ≡ b → cond b true (is_listed same ys x) ≡ true → (y ≡ x) ⊎ (is_listed same ys x ≡ true)) [
      | true ↦ λ e _. inl ((decides y x).0 e)
      | false ↦ λ e k. inr k
    ] refl h

    pub has_later : (y : X) (ys : List X) (x : X) → is_listed same ys x ≡ true → is_listed same (y ∷ ys) x ≡ true
    has_later y ys x h = elim (same y x) as (λ b. cond b true (is_listed same ys x) ≡ true) [ true ↦ refl | false ↦ h ]

    pub has_left : (xs ys : List X) (x : X) → is_listed same xs x ≡ true → is_listed same (xs ++ ys) x ≡ true
    has_left [] ys x h = absurd (true≢false (sym h))
    has_left (y ∷ xs) ys x h = elim (has_cases y xs x h) [
      | inl e ↦ subst (λ z. is_listed same (y ∷ (xs ++ ys)) z ≡ true) e (has_first y (xs ++ ys))
      | inr k ↦ has_later y (xs ++ ys) x (has_left xs ys x k)
    ]

    pub has_right : (xs ys : List X) (x : X) → is_listed same ys x ≡ true → is_listed same (xs ++ ys) x ≡ true
    has_right [] ys x h = h
    has_right (y ∷ xs) ys x h = has_later y (xs ++ ys) x (has_right xs ys x h)

    pub has_either : (xs ys : List X) (x : X) → is_listed same (xs ++ ys) x ≡ true → (is_listed same xs x ≡ true) ⊎ (is_listed same ys x ≡ true)
    has_either [] ys x h = inr h
    has_either (y ∷ xs) ys x h = elim (has_cases y (xs ++ ys) x h) [
      | inl e ↦ inl (subst (λ z. is_listed same (y ∷ xs) z ≡ true) e (has_first y xs))
      | inr k ↦ elim (has_either xs ys x k) [
        | inl l ↦ inl (has_later y xs x l)
        | inr r ↦ inr r
      ]
    ]

    pub has_kept : (test : X → Bool) (xs : List X) (x : X) → test x ≡ true → is_listed same xs x ≡ true → is_listed same (filter test xs) x ≡ true
    has_kept test [] x t h = absurd (true≢false (sym h))
    has_kept test (y ∷ xs) x t h = elim (has_cases y xs x h) [
      | inl e ↦
          let u : test y ≡ true = ap test e ∙ t in
          let k : filter test (y ∷ xs) ≡ y ∷ filter test xs = ap (λ b. cond b (y ∷ filter test xs) (filter test xs)) u in
          subst (λ l. is_listed same l x ≡ true) (sym k) (subst (λ z. is_listed same (y ∷ filter test xs) z ≡ true) e (has_first y (filter test xs)))
      | inr k ↦
          let r : is_listed same (filter test xs) x ≡ true = has_kept test xs x t k in
          elim (test y) as (λ b. is_listed same (cond b (y ∷ filter test xs) (filter test xs)) x ≡ true) [
            | true ↦ has_later y (filter test xs) x r
            | false ↦ r
          ]
    ]

    pub kept_has : (test : X → Bool) (xs : List X) (x : X) → is_listed same (filter test xs) x ≡ true → (test x ≡ true) × (is_listed same xs x ≡ true)
    kept_has test [] x h = absurd (true≢false (sym h))
    kept_has test (y ∷ xs) x h = elim (test y) as (λ b. test y ≡ b → is_listed same (cond b (y ∷ filter test xs) (filter test xs)) x ≡ true → (test x ≡ true) × (is_listed same (y ∷ xs) x ≡ true)) [
      | true ↦ λ t k. elim (has_cases y (filter test xs) x k) [
        | inl e ↦ (sym (ap test e) ∙ t, subst (λ z. is_listed same (y ∷ xs) z ≡ true) e (has_first y xs))
        | inr l ↦ let r = kept_has test xs x l in (r.0, has_later y xs x r.1)
      ]
      | false ↦ λ t k. let r = kept_has test xs x k in (r.0, has_later y xs x r.1)
    ] refl h

    -- ---- in a list that may be empty
    pub none_in : (l : List X) (x : X) → l ≡ [] → is_listed same l x ≡ true → ⊥
    none_in l x e h = true≢false (sym h ∙ ap (λ k. is_listed same k x) e)

    pub filled : (l : List X) → (l ≡ []) ⊎ ((x : X) × (is_listed same l x ≡ true))
    filled [] = inl refl
    filled (x ∷ l) = inr (x, has_first x l)

    pub or_else_first : (l other : List X) (x : X) → is_listed same l x ≡ true → or_else l other ≡ l
    or_else_first [] other x h = absurd (true≢false (sym h))
    or_else_first (y ∷ l) other x h = refl
