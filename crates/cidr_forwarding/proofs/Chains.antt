-- A network whose longer rows share at least two bits more: its only candidate is its own value, and its rows are those
-- of the network of the shared bits where that value is inherited.
use Rattle.std.proofs.Common.{◌≡◌, ℕ, suc, ◌+◌, ◌<◌, ◌≤◌, Bool, true, false, cond, List, [], ◌∷◌, ◌++◌, length, refl, sym, ap, ap₂, ◌∙◌, subst, arith, inl, inr, true≢false, append-nil}
use Rattle.std.specs.Bool.{Decides}
use Rattle.std.specs.List.{filter}
use Rattle.cidr_forwarding.specs.Trees.{Region, Even, Halves, own, below, under, deeper, region}
use Rattle.cidr_forwarding.specs.Choices.{or_else, not_of, united, is_listed, shared, joined_candidates, candidates, pick, fill, put}
use Rattle.cidr_forwarding.specs.Plans.{behind}
use Rattle.cidr_forwarding.proofs.Members.{has_first, has_cases, has_later, has_left, has_right, has_either, has_kept, kept_has, none_in}
use Rattle.cidr_forwarding.proofs.Regions.{decided, in_either}
use Rattle.cidr_forwarding.proofs.Passes.{even_region, halves_region}
use Rattle.cidr_forwarding.proofs.Placing.{under_behind, under_is, behind_nothing, length_behind}

-- a network of the bits p, with another value outside
abbrev pub walk : {X : Type 0} → X → List Bool → Region X → Region X
walk o [] t = t
walk o (false ∷ p) t = Halves (walk o p t) (Even o)
walk o (true ∷ p) t = Halves (Even o) (walk o p t)

module _ {X : Type 0} (same : X → X → Bool) (decides : (x y : X) → Decides (same x y) (x ≡ y)) (free : X → Bool) where
  -- ---- no candidate stands twice
  abbrev Unique : List X → Type 0
  Unique [] = Unit {0}
  Unique (x ∷ xs) = (is_listed same xs x ≡ false) × Unique xs

  not_true : (b : Bool) → (b ≡ true → ⊥) → b ≡ false
  not_true true n = absurd (n refl)
  not_true false n = refl

  not_kept : (test : X → Bool) (xs : List X) (x : X) → is_listed same xs x ≡ false → is_listed same (filter test xs) x ≡ false
  not_kept test xs x n = not_true (is_listed same (filter test xs) x) (λ h. true≢false (sym ((kept_has same decides test xs x h).1) ∙ n))

  not_either : (xs ys : List X) (x : X) → is_listed same xs x ≡ false → is_listed same ys x ≡ false → is_listed same (xs ++ ys) x ≡ false
  not_either xs ys x n m = not_true (is_listed same (xs ++ ys) x) (λ h. elim (has_either same decides xs ys x h) [
    | inl k ↦ true≢false (sym k ∙ n)
    | inr k ↦ true≢false (sym k ∙ m)
  ])

  not_later : (x : X) (xs : List X) (y : X) → is_listed same (x ∷ xs) y ≡ false → is_listed same xs y ≡ false
  not_later x xs y n = not_true (is_listed same xs y) (λ h. true≢false (sym (has_later same decides x xs y h) ∙ n))

  unique_filter : (test : X → Bool) (xs : List X) → Unique xs → Unique (filter test xs)
  unique_filter test [] u = tt
  unique_filter test (x ∷ xs) u = elim (test x) as (λ b. Unique (cond b (x ∷ filter test xs) (filter test xs))) [
    | true ↦ (not_kept test xs x u.0, unique_filter test xs u.1)
    | false ↦ unique_filter test xs u.1
  ]

  unique_append : (xs ys : List X) → Unique xs → Unique ys → ((x : X) → is_listed same xs x ≡ true → is_listed same ys x ≡ false) → Unique (xs ++ ys)
  unique_append [] ys u v n = v
  unique_append (x ∷ xs) ys u v n = (
    not_either xs ys x u.0 (n x (has_first same decides x xs)),
    unique_append xs ys u.1 v (λ z h. n z (has_later same decides x xs z h)),
  )

  not_shared : (xs ys : List X) → shared same xs ys ≡ [] → (x : X) → is_listed same xs x ≡ true → is_listed same ys x ≡ false
  not_shared xs ys e x h = not_true (is_listed same ys x) (λ k. none_in same decides (shared same xs ys) x e (has_kept same decides (is_listed same ys) xs x k h))

  unique_or : (l other : List X) → Unique l → Unique other → Unique (or_else l other)
  unique_or [] other u v = v
  unique_or (x ∷ l) other u v = u

  unique_joined : (xs ys : List X) → Unique xs → Unique ys → Unique (joined_candidates same free xs ys)
  unique_joined xs ys u v = elim (shared same xs ys) as (λ l. shared same xs ys ≡ l → Unique (or_else l (united free xs ys))) [
    | [] ↦ λ e.
        let all : Unique (xs ++ ys) = unique_append xs ys u v (not_shared xs ys e) in
        unique_or (filter (not_of free) (xs ++ ys)) (xs ++ ys) (unique_filter (not_of free) (xs ++ ys) all) all
    | x ∷ l ↦ λ e. subst Unique e (unique_filter (is_listed same ys) xs u)
  ] refl

  unique_candidates : (t : Region X) → Unique (candidates same free t)
  unique_candidates (Even x) = (refl, tt)
  unique_candidates (Halves l r) = unique_joined (candidates same free l) (candidates same free r) (unique_candidates l) (unique_candidates r)

  -- ---- beside a half of one value
  module _ (o : X) where
    just_has : is_listed same (o ∷ []) o ≡ true
    just_has = has_first same decides o []

    has_just : (x : X) → is_listed same (o ∷ []) x ≡ true → o ≡ x
    has_just x h = elim (has_cases same decides o [] x h) [ inl e ↦ e | inr k ↦ absurd (true≢false (sym k)) ]

    not_just : (xs : List X) → is_listed same xs o ≡ false → shared same xs (o ∷ []) ≡ []
    not_just [] n = refl
    not_just (x ∷ xs) n = elim (is_listed same (o ∷ []) x) as (λ b. is_listed same (o ∷ []) x ≡ b → cond b (x ∷ shared same xs (o ∷ [])) (shared same xs (o ∷ [])) ≡ []) [
      | true ↦ λ h. absurd (true≢false (sym (subst (λ z. is_listed same (z ∷ xs) o ≡ true) (has_just x h) (has_first same decides o xs)) ∙ n))
      | false ↦ λ h. not_just xs (not_later x xs o n)
    ] refl

    only_one : (xs : List X) → Unique xs → is_listed same xs o ≡ true → shared same xs (o ∷ []) ≡ o ∷ []
    only_one [] u h = absurd (true≢false (sym h))
    only_one (x ∷ xs) u h = elim (is_listed same (o ∷ []) x) as (λ b. is_listed same (o ∷ []) x ≡ b → cond b (x ∷ shared same xs (o ∷ [])) (shared same xs (o ∷ [])) ≡ o ∷ []) [
      | true ↦ λ k.
          let e : o ≡ x = has_just x k in
          ap₂ (λ y l. y ∷ l) (sym e) (not_just xs (subst (λ z. is_listed same xs z ≡ false) (sym e) u.0))
      | false ↦ λ k. elim (has_cases same decides x xs o h) as (λ _. shared same xs (o ∷ []) ≡ o ∷ []) [
        | inl e ↦ absurd (true≢false (sym (subst (λ z. is_listed same (o ∷ []) z ≡ true) (sym e) just_has) ∙ k))
        | inr m ↦ only_one xs u.1 m
      ]
    ] refl

    one_low : (xs : List X) → Unique xs → is_listed same xs o ≡ true → joined_candidates same free xs (o ∷ []) ≡ o ∷ []
    one_low xs u h = ap (λ l. or_else l (united free xs (o ∷ []))) (only_one xs u h)

    one_high : (xs : List X) → is_listed same xs o ≡ true → joined_candidates same free (o ∷ []) xs ≡ o ∷ []
    one_high xs h = ap (λ b. or_else (cond b (o ∷ []) []) (united free (o ∷ []) xs)) h

    abbrev pub Pins : List X → Type 0
    Pins xs = (x : X) → is_listed same xs x ≡ true → free x ≡ false → o ≡ x

    pins_just : Pins (o ∷ [])
    pins_just x h n = has_just x h

    here_low : (xs : List X) → Unique xs → Pins xs → is_listed same (joined_candidates same free xs (o ∷ [])) o ≡ true
    here_low xs u pins = elim (decided same decides free (is_listed same xs o)) [
      | inl h ↦ subst (λ l. is_listed same l o ≡ true) (sym (one_low xs u h)) just_has
      | inr n ↦
          subst (λ l. is_listed same (or_else l (united free xs (o ∷ []))) o ≡ true) (sym (not_just xs n))
          (in_either same decides free xs (o ∷ []) o pins pins_just (has_right same decides xs (o ∷ []) o just_has))
    ]

    here_high : (xs : List X) → Pins xs → is_listed same (joined_candidates same free (o ∷ []) xs) o ≡ true
    here_high xs pins = elim (decided same decides free (is_listed same xs o)) [
      | inl h ↦ subst (λ l. is_listed same l o ≡ true) (sym (one_high xs h)) just_has
      | inr n ↦
          subst (λ b. is_listed same (or_else (cond b (o ∷ []) []) (united free (o ∷ []) xs)) o ≡ true) (sym n)
          (in_either same decides free (o ∷ []) xs o pins_just pins (has_left same decides (o ∷ []) xs o just_has))
    ]

    -- ---- where all rows share bits
    one_step : (b : Bool) (u : Region X) → is_listed same (candidates same free u) o ≡ true → candidates same free (walk o (b ∷ []) u) ≡ o ∷ []
    one_step false u h = one_low (candidates same free u) (unique_candidates u) h
    one_step true u h = one_high (candidates same free u) h

    module _ (t : Region X) (pins : Pins (candidates same free t)) where
      has_walk : (p : List Bool) (b : Bool) → is_listed same (candidates same free (walk o (b ∷ p) t)) o ≡ true
      has_walk [] false = here_low (candidates same free t) (unique_candidates t) pins
      has_walk [] true = here_high (candidates same free t) pins
      has_walk (d ∷ p) false = subst (λ l. is_listed same l o ≡ true) (sym (one_step false (walk o (d ∷ p) t) (has_walk p d))) just_has
      has_walk (d ∷ p) true = subst (λ l. is_listed same l o ≡ true) (sym (one_step true (walk o (d ∷ p) t) (has_walk p d))) just_has

      -- of two bits or more
      pub one_candidate : (p : List Bool) → 2 ≤ length p → candidates same free (walk o p t) ≡ o ∷ []
      one_candidate [] h = absurd (omega arith)
      one_candidate (b ∷ []) h = absurd (omega arith)
      one_candidate (false ∷ (d ∷ p)) h = one_step false (walk o (d ∷ p) t) (has_walk p d)
      one_candidate (true ∷ (d ∷ p)) h = one_step true (walk o (d ∷ p) t) (has_walk p d)

      module _ (none : X) where
        put_even : put same free none (Even o) o ≡ []
        put_even = ap (λ b. cond b [] (([], o) ∷ [])) just_has

        put_inside : (p : List Bool) (b : Bool) → put same free none (walk o (b ∷ p) t) o ≡ fill same free none (walk o (b ∷ p) t) o
        put_inside p b =
            let u = walk o (b ∷ p) t in
            ap (λ c. cond c (fill same free none u o) (([], pick same free none u) ∷ fill same free none u (pick same free none u))) (has_walk p b)

        fill_low : (u : Region X) (rows : List (List Bool × X)) → put same free none u o ≡ rows → fill same free none (walk o (false ∷ []) u) o ≡ under false rows
        fill_low u rows e = ap₂ (λ x l. under false x ++ under true l) e put_even ∙ append-nil (under false rows)

        fill_high : (u : Region X) (rows : List (List Bool × X)) → put same free none u o ≡ rows → fill same free none (walk o (true ∷ []) u) o ≡ under true rows
        fill_high u rows e = ap₂ (λ l x. under false l ++ under true x) put_even e

        fill_more : (p : List Bool) (b : Bool) → fill same free none (walk o (b ∷ p) t) o ≡ behind (b ∷ p) (put same free none t o)
        fill_more [] false = let rows = put same free none t o in fill_low t rows refl ∙ under_is false rows
        fill_more [] true = let rows = put same free none t o in fill_high t rows refl ∙ under_is true rows
        fill_more (d ∷ p) false =
            let rows = put same free none t o in
            fill_low (walk o (d ∷ p) t) (behind (d ∷ p) rows) (put_inside p d ∙ fill_more p d) ∙ under_behind false (d ∷ p) rows
        fill_more (d ∷ p) true =
            let rows = put same free none t o in
            fill_high (walk o (d ∷ p) t) (behind (d ∷ p) rows) (put_inside p d ∙ fill_more p d) ∙ under_behind true (d ∷ p) rows

        pub fill_walk : (p : List Bool) → 0 < length p → fill same free none (walk o p t) o ≡ behind p (put same free none t o)
        fill_walk [] h = absurd (omega arith)
        fill_walk (b ∷ p) h = fill_more p b

-- ---- the forwarding of such rows
module _ {X : Type 0} where
  below_low : (rows : List (List Bool × X)) → below false (under false rows) ≡ rows
  below_low [] = refl
  below_low (r ∷ rows) = ap (λ l. r ∷ l) (below_low rows)

  below_high : (rows : List (List Bool × X)) → below true (under true rows) ≡ rows
  below_high [] = refl
  below_high (r ∷ rows) = ap (λ l. r ∷ l) (below_high rows)

  none_high : (rows : List (List Bool × X)) → below true (under false rows) ≡ []
  none_high [] = refl
  none_high (r ∷ rows) = none_high rows

  none_low : (rows : List (List Bool × X)) → below false (under true rows) ≡ []
  none_low [] = refl
  none_low (r ∷ rows) = none_low rows

  own_under : (c : X) (b : Bool) (rows : List (List Bool × X)) → own c (under b rows) ≡ c
  own_under c b [] = refl
  own_under c b (r ∷ rows) = own_under c b rows

  even_none : (w : ℕ) (c : X) → region w c [] ≡ Even c
  even_none w c = even_region w c [] refl refl

  region_under : (w : ℕ) (c : X) (b : Bool) (rows : List (List Bool × X)) → 0 < length rows → region (suc w) c (under b rows) ≡ walk c (b ∷ []) (region w c rows)
  region_under w c false rows some =
      halves_region w c c (under false rows) rows [] (sym (own_under c false rows)) (below_low rows) (none_high rows) (omega (arith, some))
      ∙ ap (λ r. Halves (region w c rows) r) (even_none w c)
  region_under w c true rows some =
      halves_region w c c (under true rows) [] rows (sym (own_under c true rows)) (none_low rows) (below_high rows) (omega (arith, some))
      ∙ ap (λ l. Halves l (region w c rows)) (even_none w c)

  walk_step : (c : X) (b : Bool) (p : List Bool) (t : Region X) → walk c (b ∷ []) (walk c p t) ≡ walk c (b ∷ p) t
  walk_step c false p t = refl
  walk_step c true p t = refl

  pub region_behind : (p : List Bool) (w n : ℕ) (c : X) (rows : List (List Bool × X)) → n ≡ length p + w → 0 < length rows
      → region n c (behind p rows) ≡ walk c p (region w c rows)
  region_behind [] w n c rows e some = let f : n ≡ w = omega (arith, e) in ap₂ (λ k l. region k c l) f (behind_nothing rows)
  region_behind (b ∷ p) w n c rows e some =
      let v = length p + w in
      let f : n ≡ suc v = omega (arith, e) in
      ap₂ (λ k l. region k c l) f (sym (under_behind b p rows)) ∙ region_under v c b (behind p rows) (omega (arith, some, length_behind p rows))
      ∙ ap (walk c (b ∷ [])) (region_behind p w v c rows refl some) ∙ walk_step c b p (region w c rows)

  pub region_rest : (w : ℕ) (c o : X) (rows rest : List (List Bool × X)) → o ≡ own c rows → own o rest ≡ o → ((b : Bool) → below b rows ≡ below b rest)
      → region (suc w) c rows ≡ region (suc w) o rest
  region_rest w c o rows rest s n h =
      ap₂ (λ lows highs. deeper lows highs (own c rows) (region w (own c rows) lows) (region w (own c rows) highs)) (h false) (h true)
      ∙ ap (λ x. deeper (below false rest) (below true rest) x (region w x (below false rest)) (region w x (below true rest))) (sym s ∙ sym n)
