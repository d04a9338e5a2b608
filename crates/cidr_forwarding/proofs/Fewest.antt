-- The fewest rows for a forwarding: no rows are fewer, and there are as many.
use Rattle.std.proofs.Common.{◌≡◌, ℕ, ◌+◌, ◌≤◌, Bool, true, false, cond, List, [], ◌∷◌, ◌++◌, length, refl, sym, ap, ap₂, ◌∙◌, subst, arith, inl, inr, true≢false, length-append}
use Rattle.std.specs.Bool.{Decides}
use Rattle.cidr_forwarding.proofs.RowParts.{forward, length_split, forward_none, AreFree, free_below, own_cases, inherits, length_under, own_halves, below_halves_false, below_halves_true, free_under, free_append}
use Rattle.cidr_forwarding.proofs.Members.{has_first, has_cases, has_left, has_right, filled, or_else_first}
use Rattle.cidr_forwarding.proofs.Regions.{at, Fits, extra_small, extra_of_has, decided, from_joined, passed_on, with_row, no_more, only_pinned}
use Rattle.cidr_forwarding.specs.Trees.{Region, Even, Halves, own, below, under}
use Rattle.cidr_forwarding.specs.Choices.{or_else, not_of, united, one_if_empty, is_listed, extra, shared, joined_candidates, candidates, head_or, pick, fill, put}
use Rattle.std.specs.List.{filter}

module _ {X : Type 0} (same : X → X → Bool) (free : X → Bool) where
  -- the fewest rows where such a value is inherited
  abbrev pub fewest : Region X → ℕ
  fewest (Even x) = 0
  fewest (Halves l r) = fewest l + fewest r + one_if_empty (shared same (candidates same free l) (candidates same free r))

  -- the fewest rows where this value is
  abbrev pub cost : Region X → X → ℕ
  cost t c = fewest t + extra same (candidates same free t) c

  module _ (decides : (x y : X) → Decides (same x y) (x ≡ y)) where
    -- ---- no rows are fewer
    abbrev Exact : Region X → (List Bool → Type 0) → X → List (List Bool × X) → Type 0
    Exact t IsAddress c rows = (a : List Bool) → IsAddress a → forward c rows a ≡ at t a

    half_exact : (b : Bool) (l r t : Region X) (IsAddress : List Bool → Type 0) (c : X) (rows : List (List Bool × X))
        → ((a : List Bool) → at (Halves l r) (b ∷ a) ≡ at t a) → Exact (Halves l r) IsAddress c rows
        → Exact t (λ a. IsAddress (b ∷ a)) (own c rows) (below b rows)
    half_exact b l r t IsAddress c rows same_at h a m = h (b ∷ a) m ∙ same_at a

    -- what no row may have has to be inherited
    pub pinned : (t : Region X) (IsAddress : List Bool → Type 0) (c : X) (rows : List (List Bool × X)) → Fits t IsAddress → AreFree free rows
        → Exact t IsAddress c rows → (x : X) → is_listed same (candidates same free t) x ≡ true → free x ≡ false → c ≡ x
    pinned (Even v) IsAddress c rows fits fr exact x h n = elim (has_cases same decides v [] x h) [
      | inl e ↦
          let f : forward c rows fits.0 ≡ x = exact fits.0 fits.1 ∙ e in
          sym (inherits free c rows fits.0 fr (ap free f ∙ n)) ∙ f
      | inr k ↦ absurd (true≢false (sym k))
    ]
    pinned (Halves l r) IsAddress c rows fits fr exact x h n =
        let low = λ (k : is_listed same (candidates same free l) x ≡ true). pinned l (λ a. IsAddress (false ∷ a)) (own c rows) (below false rows) fits.1
        (free_below free false rows fr) (half_exact false l r l IsAddress c rows (λ a. refl) exact) x k n in
        let high = λ (k : is_listed same (candidates same free r) x ≡ true). pinned r (λ a. IsAddress (true ∷ a)) (own c rows) (below true rows) fits.2
        (free_below free true rows fr) (half_exact true l r r IsAddress c rows (λ a. refl) exact) x k n in
        let o : own c rows ≡ x = elim (from_joined same decides free (candidates same free l) (candidates same free r) x h) [ inl k ↦ low k | inr k ↦ high k ] in
        elim (own_cases free c rows fr) [
          | inl s ↦ sym s.1 ∙ o
          | inr s ↦ absurd (true≢false (sym s.1 ∙ (ap free o ∙ n)))
        ]

    even_bound : (v c : X) (IsAddress : List Bool → Type 0) (rows : List (List Bool × X)) (a : List Bool) → IsAddress a
        → Exact (Even v) IsAddress c rows → extra same (v ∷ []) c ≤ length rows
    even_bound v c IsAddress [] a m exact =
        let e : c ≡ v = sym (forward_none c a) ∙ exact a m in
        omega (arith, extra_of_has same decides free (v ∷ []) c (subst (λ z. is_listed same (v ∷ []) z ≡ true) (sym e) (has_first same decides v [])))
    even_bound v c IsAddress (r ∷ rows) a m exact = omega (arith, extra_small same decides free (v ∷ []) c)

    -- the rows are at least as many as the cost
    pub bound : (t : Region X) (IsAddress : List Bool → Type 0) (c : X) (rows : List (List Bool × X)) → Fits t IsAddress → AreFree free rows
        → Exact t IsAddress c rows → cost t c ≤ length rows
    bound (Even v) IsAddress c rows fits fr exact = omega (arith, even_bound v c IsAddress rows fits.0 fits.1 exact)
    bound (Halves l r) IsAddress c rows fits fr exact =
        let o : X = own c rows in
        let el = half_exact false l r l IsAddress c rows (λ a. refl) exact in
        let er = half_exact true l r r IsAddress c rows (λ a. refl) exact in
        let fl = free_below free false rows fr in
        let fh = free_below free true rows fr in
        let low = bound l (λ a. IsAddress (false ∷ a)) (own c rows) (below false rows) fits.1 fl el in
        let high = bound r (λ a. IsAddress (true ∷ a)) (own c rows) (below true rows) fits.2 fh er in
        elim (own_cases free c rows fr) [
          | inl s ↦
              let p = passed_on same decides free (candidates same free l) (candidates same free r) (own c rows)
              (pinned l (λ a. IsAddress (false ∷ a)) (own c rows) (below false rows) fits.1 fl el)
              (pinned r (λ a. IsAddress (true ∷ a)) (own c rows) (below true rows) fits.2 fh er) in
              let q : one_if_empty (shared same (candidates same free l) (candidates same free r)) + extra same (joined_candidates same free (candidates same free l) (candidates same free r)) c
              ≤ extra same (candidates same free l) (own c rows) + extra same (candidates same free r) (own c rows) =
              subst (λ z. one_if_empty (shared same (candidates same free l) (candidates same free r)) + extra same (joined_candidates same free (candidates same free l) (candidates same free r)) z
              ≤ extra same (candidates same free l) (own c rows) + extra same (candidates same free r) (own c rows)) s.1 p in
              omega (arith, q, low, high, length_split rows)
          | inr s ↦
              let q = with_row same decides free (candidates same free l) (candidates same free r) (own c rows) c in
              omega (arith, q, low, high, length_split rows, s.0)
        ]

module _ {X : Type 0} (same : X → X → Bool) (free : X → Bool) (none : X) where
  -- ---- a candidate is picked
  module _ (decides : (x y : X) → Decides (same x y) (x ≡ y)) where
    head_has : (l : List X) (x : X) → is_listed same l x ≡ true → is_listed same l (head_or none l) ≡ true
    head_has [] x h = absurd (true≢false (sym h))
    head_has (y ∷ l) x h = has_first same decides y l

    any_candidate : (t : Region X) → (x : X) × (is_listed same (candidates same free t) x ≡ true)
    any_candidate (Even v) = (v, has_first same decides v [])
    any_candidate (Halves l r) =
        let xs = candidates same free l in
        let ys = candidates same free r in
        elim (filled same decides (shared same xs ys)) [
          | inl e ↦ elim (filled same decides (filter (not_of free) (xs ++ ys))) [
            | inl f ↦
                let a = any_candidate l in (
                  a.0,
                  subst (λ m. is_listed same (or_else m (united free xs ys)) a.0 ≡ true) (sym e)
                      (subst (λ m. is_listed same (or_else m (xs ++ ys)) a.0 ≡ true) (sym f) (has_left same decides xs ys a.0 a.1)),
                )
            | inr g ↦ (
              g.0,
              subst (λ m. is_listed same (or_else m (united free xs ys)) g.0 ≡ true) (sym e)
                  (subst (λ m. is_listed same m g.0 ≡ true) (sym (or_else_first same decides (filter (not_of free) (xs ++ ys)) (xs ++ ys) g.0 g.1)) g.1),
            )
          ]
          | inr g ↦ (g.0, subst (λ m. is_listed same m g.0 ≡ true) (sym (or_else_first same decides (shared same xs ys) (united free xs ys) g.0 g.1)) g.1)
        ]

    pub pick_has : (t : Region X) → is_listed same (candidates same free t) (pick same free none t) ≡ true
    pick_has t = let a = any_candidate t in head_has (candidates same free t) a.0 a.1

    -- ---- they forward as they should
    pub own_fill : (t : Region X) (c : X) → own c (fill same free none t c) ≡ c
    own_fill (Even v) c = refl
    own_fill (Halves l r) c = own_halves c (put same free none l c) (put same free none r c)

    row_forward : (c x : X) (rows : List (List Bool × X)) (a : List Bool) → own x rows ≡ x → forward c (([], x) ∷ rows) a ≡ forward x rows a
    row_forward c x rows [] e = sym e
    row_forward c x rows (b ∷ a) e = ap (λ z. forward z (below b rows) a) (sym e)

    put_exact : (t : Region X) (a : List Bool) → ((x : X) → is_listed same (candidates same free t) x ≡ true → forward x (fill same free none t x) a ≡ at t a)
        → (c : X) → forward c (put same free none t c) a ≡ at t a
    put_exact t a inside c = elim (is_listed same (candidates same free t) c) as (λ b. is_listed same (candidates same free t) c ≡ b
        → forward c (cond b (fill same free none t c) (([], pick same free none t) ∷ fill same free none t (pick same free none t))) a ≡ at t a) [
          | true ↦ λ h. inside c h
          | false ↦ λ h. row_forward c (pick same free none t) (fill same free none t (pick same free none t)) a (own_fill t (pick same free none t)) ∙ inside (pick same free none t) (pick_has t)
        ] refl

    pub fill_exact : (t : Region X) (IsAddress : List Bool → Type 0) → Fits t IsAddress → (a : List Bool) → IsAddress a
        → (c : X) → is_listed same (candidates same free t) c ≡ true → forward c (fill same free none t c) a ≡ at t a
    fill_exact (Even v) IsAddress fits a m c h = elim (has_cases same decides v [] c h) [
      | inl e ↦ forward_none c a ∙ sym e
      | inr k ↦ absurd (true≢false (sym k))
    ]
    fill_exact (Halves l r) IsAddress fits [] m c h = absurd (fits.0 m)
    fill_exact (Halves l r) IsAddress fits (false ∷ a) m c h =
        ap₂ (λ z rows. forward z rows a) (own_halves c (put same free none l c) (put same free none r c)) (below_halves_false (put same free none l c) (put same free none r c))
        ∙ put_exact l a (fill_exact l (λ s. IsAddress (false ∷ s)) fits.1 a m) c
    fill_exact (Halves l r) IsAddress fits (true ∷ a) m c h =
        ap₂ (λ z rows. forward z rows a) (own_halves c (put same free none l c) (put same free none r c)) (below_halves_true (put same free none l c) (put same free none r c))
        ∙ put_exact r a (fill_exact r (λ s. IsAddress (true ∷ s)) fits.2 a m) c

    pub exact : (t : Region X) (IsAddress : List Bool → Type 0) → Fits t IsAddress → (c : X) (a : List Bool) → IsAddress a
        → forward c (put same free none t c) a ≡ at t a
    exact t IsAddress fits c a m = put_exact t a (fill_exact t IsAddress fits a m) c

    -- ---- they are as many as the cost
    put_length : (t : Region X) → ((x : X) → is_listed same (candidates same free t) x ≡ true → length (fill same free none t x) ≡ fewest same free t)
        → (c : X) → length (put same free none t c) ≡ cost same free t c
    put_length t inside c = elim (is_listed same (candidates same free t) c) as (λ b. is_listed same (candidates same free t) c ≡ b
        → length (cond b (fill same free none t c) (([], pick same free none t) ∷ fill same free none t (pick same free none t))) ≡ fewest same free t + cond b 0 1) [
          | true ↦ λ h. omega (arith, inside c h)
          | false ↦ λ h. omega (arith, inside (pick same free none t) (pick_has t))
        ] refl

    pub fill_length : (t : Region X) (c : X) → is_listed same (candidates same free t) c ≡ true → length (fill same free none t c) ≡ fewest same free t
    fill_length (Even v) c h = refl
    fill_length (Halves l r) c h =
        let lows = put same free none l c in
        let highs = put same free none r c in
        omega (
          arith,
          length-append (under false lows) (under true highs),
          length_under false lows,
          length_under true highs,
          put_length l (fill_length l) c,
          put_length r (fill_length r) c,
          no_more same decides free (candidates same free l) (candidates same free r) c h,
        )

    pub as_many : (t : Region X) (c : X) → length (put same free none t c) ≡ cost same free t c
    as_many t c = put_length t (fill_length t) c

    -- ---- their values may be those of rows
    module _ (one : (x y : X) → free x ≡ false → free y ≡ false → x ≡ y) where
      low_free : (l r : Region X) (c : X) → is_listed same (candidates same free (Halves l r)) c ≡ true → is_listed same (candidates same free l) c ≡ false
          → free (pick same free none l) ≡ true
      low_free l r c h n = elim (decided same decides free (free (pick same free none l))) [
        | inl f ↦ f
        | inr f ↦ absurd (true≢false (sym (elim (only_pinned same decides free (candidates same free l) (candidates same free r) one (pick same free none l) c
            (has_left same decides (candidates same free l) (candidates same free r) (pick same free none l) (pick_has l)) f h) as (λ _. is_listed same (candidates same free l) c ≡ true) [
              | inl k ↦ k.1
              | inr e ↦ subst (λ z. is_listed same (candidates same free l) z ≡ true) (sym e) (pick_has l)
            ]) ∙ n))
      ]

      high_free : (l r : Region X) (c : X) → is_listed same (candidates same free (Halves l r)) c ≡ true → is_listed same (candidates same free r) c ≡ false
          → free (pick same free none r) ≡ true
      high_free l r c h n = elim (decided same decides free (free (pick same free none r))) [
        | inl f ↦ f
        | inr f ↦ absurd (true≢false (sym (elim (only_pinned same decides free (candidates same free l) (candidates same free r) one (pick same free none r) c
            (has_right same decides (candidates same free l) (candidates same free r) (pick same free none r) (pick_has r)) f h) as (λ _. is_listed same (candidates same free r) c ≡ true) [
              | inl k ↦ k.0
              | inr e ↦ subst (λ z. is_listed same (candidates same free r) z ≡ true) (sym e) (pick_has r)
            ]) ∙ n))
      ]

      put_free : (t : Region X) → ((x : X) → is_listed same (candidates same free t) x ≡ true → AreFree free (fill same free none t x))
          → (c : X) → (is_listed same (candidates same free t) c ≡ false → free (pick same free none t) ≡ true) → AreFree free (put same free none t c)
      put_free t inside c row = elim (is_listed same (candidates same free t) c) as (λ b. is_listed same (candidates same free t) c ≡ b
          → AreFree free (cond b (fill same free none t c) (([], pick same free none t) ∷ fill same free none t (pick same free none t)))) [
            | true ↦ λ h. inside c h
            | false ↦ λ h. (row h, inside (pick same free none t) (pick_has t))
          ] refl

      pub fill_free : (t : Region X) (c : X) → is_listed same (candidates same free t) c ≡ true → AreFree free (fill same free none t c)
      fill_free (Even v) c h = tt
      fill_free (Halves l r) c h =
          free_append free (under false (put same free none l c)) (under true (put same free none r c))
          (free_under free false (put same free none l c) (put_free l (fill_free l) c (low_free l r c h)))
          (free_under free true (put same free none r c) (put_free r (fill_free r) c (high_free l r c h)))

      -- where what no row may have is inherited
      pub all_free : (t : Region X) → ((x : X) → free x ≡ false → x ≡ none) → AreFree free (put same free none t none)
      all_free t only = put_free t (fill_free t) none (λ n. elim (decided same decides free (free (pick same free none t))) [
        | inl f ↦ f
        | inr f ↦ absurd (true≢false (sym (subst (λ z. is_listed same (candidates same free t) z ≡ true) (only (pick same free none t) f) (pick_has t)) ∙ n))
      ])
