-- A forwarding as a tree of halves; its candidates, the fewest rows for it, and such rows.
use Rattle.std.proofs.Common.{◌≡◌, ◌⊎◌, ◌+◌, ◌≤◌, Bool, true, false, cond, List, [], ◌∷◌, ◌++◌, refl, sym, ap, ◌∙◌, subst, arith, inl, inr, true≢false}
use Rattle.std.specs.Bool.{Decides}
use Rattle.cidr_forwarding.proofs.Members.{has_left, has_right, has_either, has_kept, kept_has, none_in, filled, or_else_first}
use Rattle.cidr_forwarding.specs.Trees.{Region, Even, Halves}
use Rattle.cidr_forwarding.specs.Choices.{or_else, not_of, united, one_if_empty, is_listed, extra, shared, joined_candidates}
use Rattle.std.specs.List.{filter}

module _ {X : Type 0} where
  -- the value at an address
  abbrev pub at : Region X → List Bool → X
  at (Even x) a = x
  at (Halves l r) [] = at l []
  at (Halves l r) (false ∷ a) = at l a
  at (Halves l r) (true ∷ a) = at r a

  -- the addresses reach each part that has one value, and each such part has an address
  abbrev pub Fits : Region X → (List Bool → Type 0) → Type 0
  Fits (Even x) IsAddress = (a : List Bool) × IsAddress a
  Fits (Halves l r) IsAddress = ¬ (IsAddress []) × Fits l (λ a. IsAddress (false ∷ a)) × Fits r (λ a. IsAddress (true ∷ a))

-- ---- numbers of two halves
module _ {X : Type 0} (same : X → X → Bool) (decides : (x y : X) → Decides (same x y) (x ≡ y)) (free : X → Bool) where
  pub extra_small : (xs : List X) (x : X) → extra same xs x ≤ 1
  extra_small xs x = elim (is_listed same xs x) as (λ b. cond b 0 1 ≤ 1) [ true ↦ omega arith | false ↦ omega arith ]

  pub extra_of_has : (xs : List X) (x : X) → is_listed same xs x ≡ true → extra same xs x ≡ 0
  extra_of_has xs x h = ap (λ b. cond b 0 1) h

  pub extra_of_not : (xs : List X) (x : X) → is_listed same xs x ≡ false → extra same xs x ≡ 1
  extra_of_not xs x h = ap (λ b. cond b 0 1) h

  pub decided : (b : Bool) → (b ≡ true) ⊎ (b ≡ false)
  decided true = inl refl
  decided false = inr refl

  pub is_false : (b : Bool) → cond b false true ≡ true → b ≡ false
  is_false true h = sym h
  is_false false h = refl

  module _ (xs ys : List X) where
    in_shared : (x : X) → is_listed same xs x ≡ true → is_listed same ys x ≡ true → is_listed same (shared same xs ys) x ≡ true
    in_shared x h k = has_kept same decides (is_listed same ys) xs x k h

    pub from_shared : (x : X) → is_listed same (shared same xs ys) x ≡ true → (is_listed same ys x ≡ true) × (is_listed same xs x ≡ true)
    from_shared x h = kept_has same decides (is_listed same ys) xs x h

    in_united : (x : X) → is_listed same (filter (not_of free) (xs ++ ys)) x ≡ true → is_listed same (united free xs ys) x ≡ true
    in_united x h = subst (λ l. is_listed same l x ≡ true) (sym (or_else_first same decides (filter (not_of free) (xs ++ ys)) (xs ++ ys) x h)) h

    -- a candidate is one of a half
    pub from_united : (x : X) → is_listed same (united free xs ys) x ≡ true → is_listed same (xs ++ ys) x ≡ true
    from_united x h = elim (filled same decides (filter (not_of free) (xs ++ ys))) [
      | inl e ↦ subst (λ l. is_listed same (or_else l (xs ++ ys)) x ≡ true) e h
      | inr f ↦
          let k = or_else_first same decides (filter (not_of free) (xs ++ ys)) (xs ++ ys) f.0 f.1 in
          (kept_has same decides (not_of free) (xs ++ ys) x (subst (λ l. is_listed same l x ≡ true) k h)).1
    ]

    pub from_joined : (x : X) → is_listed same (joined_candidates same free xs ys) x ≡ true → (is_listed same xs x ≡ true) ⊎ (is_listed same ys x ≡ true)
    from_joined x h = elim (filled same decides (shared same xs ys)) [
      | inl e ↦ has_either same decides xs ys x (from_united x (subst (λ l. is_listed same (or_else l (united free xs ys)) x ≡ true) e h))
      | inr f ↦
          let k = or_else_first same decides (shared same xs ys) (united free xs ys) f.0 f.1 in
          inr ((from_shared x (subst (λ l. is_listed same l x ≡ true) k h)).0)
    ]

    -- no value is a candidate of both halves
    apart : shared same xs ys ≡ [] → (x : X) → is_listed same xs x ≡ true → is_listed same ys x ≡ true → ⊥
    apart e x h k = none_in same decides (shared same xs ys) x e (in_shared x h k)

    -- ---- the rows that a network takes at least, where c counts in both halves
    module _ (c : X) where
      passed_some : (l : List X) → shared same xs ys ≡ l → extra same l c ≤ extra same xs c + extra same ys c
      passed_some l e = elim (decided (is_listed same xs c)) [
        | inl h ↦ elim (decided (is_listed same ys c)) [
          | inl k ↦ omega (arith, extra_of_has l c (subst (λ m. is_listed same m c ≡ true) e (in_shared c h k)))
          | inr k ↦ omega (arith, extra_small l c, extra_of_not ys c k)
        ]
        | inr h ↦ omega (arith, extra_small l c, extra_of_not xs c h)
      ]

      module _ (px : (x : X) → is_listed same xs x ≡ true → free x ≡ false → c ≡ x) (py : (x : X) → is_listed same ys x ≡ true → free x ≡ false → c ≡ x) where
        pub in_either : is_listed same (xs ++ ys) c ≡ true → is_listed same (united free xs ys) c ≡ true
        in_either h = elim (filled same decides (filter (not_of free) (xs ++ ys))) [
          | inl e ↦ subst (λ l. is_listed same (or_else l (xs ++ ys)) c ≡ true) (sym e) h
          | inr f ↦
              let k = kept_has same decides (not_of free) (xs ++ ys) f.0 f.1 in
              let n : free f.0 ≡ false = is_false (free f.0) k.0 in
              let e : c ≡ f.0 = elim (has_either same decides xs ys f.0 k.1) [ inl l ↦ px f.0 l n | inr r ↦ py f.0 r n ] in
              in_united c (subst (λ z. is_listed same (filter (not_of free) (xs ++ ys)) z ≡ true) (sym e) f.1)
        ]

        passed_none : shared same xs ys ≡ [] → 1 + extra same (united free xs ys) c ≤ extra same xs c + extra same ys c
        passed_none e = elim (decided (is_listed same xs c)) [
          | inl h ↦ elim (decided (is_listed same ys c)) [
            | inl k ↦ absurd (apart e c h k)
            | inr k ↦ omega (arith, extra_of_has (united free xs ys) c (in_either (has_left same decides xs ys c h)), extra_of_not ys c k)
          ]
          | inr h ↦ elim (decided (is_listed same ys c)) [
            | inl k ↦ omega (arith, extra_of_has (united free xs ys) c (in_either (has_right same decides xs ys c k)), extra_of_not xs c h)
            | inr k ↦ omega (arith, extra_small (united free xs ys) c, extra_of_not xs c h, extra_of_not ys c k)
          ]
        ]

        pub passed_on : one_if_empty (shared same xs ys) + extra same (joined_candidates same free xs ys) c ≤ extra same xs c + extra same ys c
        passed_on = elim (shared same xs ys) as (λ l. shared same xs ys ≡ l → one_if_empty l + extra same (or_else l (united free xs ys)) c ≤ extra same xs c + extra same ys c) [
          | [] ↦ λ e. passed_none e
          | x ∷ l ↦ λ e. omega (arith, passed_some (x ∷ l) e)
        ] refl

      -- where one row more is there anyway
      pub with_row : (d : X) → one_if_empty (shared same xs ys) + extra same (joined_candidates same free xs ys) d ≤ 1 + (extra same xs c + extra same ys c)
      with_row d = elim (shared same xs ys) as (λ l. shared same xs ys ≡ l → one_if_empty l + extra same (or_else l (united free xs ys)) d ≤ 1 + (extra same xs c + extra same ys c)) [
        | [] ↦ λ e. elim (decided (is_listed same xs c)) [
          | inl h ↦ elim (decided (is_listed same ys c)) [
            | inl k ↦ absurd (apart e c h k)
            | inr k ↦ omega (arith, extra_small (united free xs ys) d, extra_of_not ys c k)
          ]
          | inr h ↦ omega (arith, extra_small (united free xs ys) d, extra_of_not xs c h)
        ]
        | x ∷ l ↦ λ e. omega (arith, extra_small (x ∷ l) d)
      ] refl

      -- a candidate takes no more
      pub no_more : is_listed same (joined_candidates same free xs ys) c ≡ true → extra same xs c + extra same ys c ≡ one_if_empty (shared same xs ys)
      no_more h = elim (shared same xs ys) as (λ l. shared same xs ys ≡ l → is_listed same (or_else l (united free xs ys)) c ≡ true → extra same xs c + extra same ys c ≡ one_if_empty l) [
        | [] ↦ λ e k. elim (decided (is_listed same xs c)) [
          | inl m ↦ elim (decided (is_listed same ys c)) [
            | inl n ↦ absurd (apart e c m n)
            | inr n ↦ omega (arith, extra_of_has xs c m, extra_of_not ys c n)
          ]
          | inr m ↦ elim (has_either same decides xs ys c (from_united c k)) [
            | inl n ↦ absurd (true≢false (sym n ∙ m))
            | inr n ↦ omega (arith, extra_of_not xs c m, extra_of_has ys c n)
          ]
        ]
        | x ∷ l ↦ λ e k.
            let f = from_shared c (subst (λ m. is_listed same m c ≡ true) (sym e) k) in
            omega (arith, extra_of_has xs c f.1, extra_of_has ys c f.0)
      ] refl h

    -- where a candidate of a half may be no row's, a candidate of the network is one of both, or that one
    pub only_pinned : ((x y : X) → free x ≡ false → free y ≡ false → x ≡ y) → (z x : X) → is_listed same (xs ++ ys) z ≡ true → free z ≡ false
        → is_listed same (joined_candidates same free xs ys) x ≡ true → ((is_listed same ys x ≡ true) × (is_listed same xs x ≡ true)) ⊎ (x ≡ z)
    only_pinned one z x h n k = elim (filled same decides (shared same xs ys)) [
      | inl e ↦
          let t : not_of free z ≡ true = ap (λ b. cond b false true) n in
          let f = has_kept same decides (not_of free) (xs ++ ys) z t h in
          let u : is_listed same (united free xs ys) x ≡ true = subst (λ l. is_listed same (or_else l (united free xs ys)) x ≡ true) e k in
          let m = or_else_first same decides (filter (not_of free) (xs ++ ys)) (xs ++ ys) z f in
          let v = kept_has same decides (not_of free) (xs ++ ys) x (subst (λ l. is_listed same l x ≡ true) m u) in
          inr (one x z (is_false (free x) v.0) n)
      | inr f ↦
          let m = or_else_first same decides (shared same xs ys) (united free xs ys) f.0 f.1 in
          inl (from_shared x (subst (λ l. is_listed same l x ≡ true) m k))
    ]
