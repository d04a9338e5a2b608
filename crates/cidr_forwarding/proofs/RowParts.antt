-- Rows by their first bit: those of no bits, and those in either half. What the rows forward to, half by half.
use Rattle.std.proofs.Common.{◌≡◌, ◌⊎◌, ℕ, suc, ◌+◌, ◌≤◌, Bool, true, false, List, [], ◌∷◌, ◌++◌, length, refl, sym, ap, ◌∙◌, arith, inl, inr, true≢false}
use Rattle.cidr_forwarding.specs.Trees.{own_step, own, below_step, below, under}

abbrev pub roots_step : List Bool → ℕ → ℕ
roots_step [] n = suc n
roots_step (b ∷ p) n = n

module _ {X : Type 0} where
  -- the value at an address, where one is inherited
  abbrev pub forward : X → List (List Bool × X) → List Bool → X
  forward c rows [] = own c rows
  forward c rows (b ∷ a) = forward (own c rows) (below b rows) a

  -- how many rows have no bits
  abbrev pub roots : List (List Bool × X) → ℕ
  roots [] = 0
  roots (r ∷ rows) = roots_step r.0 (roots rows)

  split_row : (p : List Bool) (x : X) (n k : ℕ) (lows highs : List (List Bool × X)) → n ≡ k + (length lows + length highs)
      → suc n ≡ roots_step p k + (length (below_step false p x lows) + length (below_step true p x highs))
  split_row [] x n k lows highs h = omega arith
  split_row (false ∷ p) x n k lows highs h = omega arith
  split_row (true ∷ p) x n k lows highs h = omega arith

  pub length_split : (rows : List (List Bool × X)) → length rows ≡ roots rows + (length (below false rows) + length (below true rows))
  length_split [] = refl
  length_split (r ∷ rows) = split_row r.0 r.1 (length rows) (roots rows) (below false rows) (below true rows) (length_split rows)

  pub forward_none : (c : X) (a : List Bool) → forward c [] a ≡ c
  forward_none c [] = refl
  forward_none c (b ∷ a) = forward_none c a

  -- ---- rows whose values may be those of rows
  module _ (free : X → Bool) where
    abbrev pub AreFree : List (List Bool × X) → Type 0
    AreFree [] = Unit {0}
    AreFree (r ∷ rows) = (free r.1 ≡ true) × AreFree rows

    free_step : (b : Bool) (p : List Bool) (x : X) (rows : List (List Bool × X)) → free x ≡ true → AreFree rows → AreFree (below_step b p x rows)
    free_step b [] x rows f h = h
    free_step false (false ∷ p) x rows f h = (f, h)
    free_step false (true ∷ p) x rows f h = h
    free_step true (false ∷ p) x rows f h = h
    free_step true (true ∷ p) x rows f h = (f, h)

    pub free_below : (b : Bool) (rows : List (List Bool × X)) → AreFree rows → AreFree (below b rows)
    free_below b [] h = tt
    free_below b (r ∷ rows) h = free_step b r.0 r.1 (below b rows) h.0 (free_below b rows h.1)

    -- no row of no bits, or at least one, whose value then counts
    own_row : (c : X) (p : List Bool) (x : X) (k : ℕ) (o : X) → free x ≡ true → ((k ≡ 0) × (o ≡ c)) ⊎ ((1 ≤ k) × (free o ≡ true))
        → ((roots_step p k ≡ 0) × (own_step p x o ≡ c)) ⊎ ((1 ≤ roots_step p k) × (free (own_step p x o) ≡ true))
    own_row c [] x k o f h = inr (omega arith, f)
    own_row c (b ∷ p) x k o f h = h

    pub own_cases : (c : X) (rows : List (List Bool × X)) → AreFree rows
        → ((roots rows ≡ 0) × (own c rows ≡ c)) ⊎ ((1 ≤ roots rows) × (free (own c rows) ≡ true))
    own_cases c [] h = inl (refl, refl)
    own_cases c (r ∷ rows) h = own_row c r.0 r.1 (roots rows) (own c rows) h.0 (own_cases c rows h.1)

    -- a value that is none of a row is inherited
    pub inherits : (c : X) (rows : List (List Bool × X)) (a : List Bool) → AreFree rows → free (forward c rows a) ≡ false → forward c rows a ≡ c
    inherits c rows [] h f = elim (own_cases c rows h) [
      | inl e ↦ e.1
      | inr e ↦ absurd (true≢false (sym e.1 ∙ f))
    ]
    inherits c rows (b ∷ a) h f =
        let e : forward (own c rows) (below b rows) a ≡ own c rows = inherits (own c rows) (below b rows) a (free_below b rows h) f in
        elim (own_cases c rows h) [
          | inl s ↦ e ∙ s.1
          | inr s ↦ absurd (true≢false (sym s.1 ∙ (sym (ap free e) ∙ f)))
        ]

  -- ---- rows put below a bit
  pub length_under : (b : Bool) (rows : List (List Bool × X)) → length (under b rows) ≡ length rows
  length_under b [] = refl
  length_under b (r ∷ rows) = ap suc (length_under b rows)

  pub own_halves : (c : X) (lows highs : List (List Bool × X)) → own c (under false lows ++ under true highs) ≡ c
  own_halves c [] [] = refl
  own_halves c [] (r ∷ highs) = own_halves c [] highs
  own_halves c (r ∷ lows) highs = own_halves c lows highs

  pub below_halves_false : (lows highs : List (List Bool × X)) → below false (under false lows ++ under true highs) ≡ lows
  below_halves_false [] [] = refl
  below_halves_false [] (r ∷ highs) = below_halves_false [] highs
  below_halves_false (r ∷ lows) highs = ap (λ rows. r ∷ rows) (below_halves_false lows highs)

  pub below_halves_true : (lows highs : List (List Bool × X)) → below true (under false lows ++ under true highs) ≡ highs
  below_halves_true [] [] = refl
  below_halves_true [] (r ∷ highs) = ap (λ rows. r ∷ rows) (below_halves_true [] highs)
  below_halves_true (r ∷ lows) highs = below_halves_true lows highs

  pub free_under : (free : X → Bool) (b : Bool) (rows : List (List Bool × X)) → AreFree free rows → AreFree free (under b rows)
  free_under free b [] h = tt
  free_under free b (r ∷ rows) h = (h.0, free_under free b rows h.1)

  pub free_append : (free : X → Bool) (xs ys : List (List Bool × X)) → AreFree free xs → AreFree free ys → AreFree free (xs ++ ys)
  free_append free [] ys h k = k
  free_append free (x ∷ xs) ys h k = (h.0, free_append free xs ys h.1 k)
