-- The longest row of an address, and the value that the rows forward it to half by half: they are one.
use Rattle.std.proofs.Common.{◌≡◌, ◌≢◌, ◌⊎◌, ℕ, zero, suc, Bool, true, false, List, [], ◌∷◌, length, take, Option, Some, None, refl, sym, ap, ◌∙◌, subst, arith, inl, inr}
use Rattle.std.specs.List.{Contains}
use Rattle.cidr.specs.model.Network.{BeginsWith}
use Rattle.cidr_table.specs.model.Prefixes.{IsLongestRow, IsLookedUp}
use Rattle.cidr_table.proofs.MapLaws.{contains_first, contains_later, contains_cases, contains_nothing}
use Rattle.cidr_forwarding.proofs.RowParts.{forward}
use Rattle.cidr_forwarding.specs.Trees.{own, below_step, below}

-- ---- beginnings
take_nothing : (n : ℕ) (p : List Bool) → take n [] ≡ p → p ≡ []
take_nothing zero p e = sym e
take_nothing (suc n) p e = sym e

pub begins_nothing : (p : List Bool) → BeginsWith [] p → p ≡ []
begins_nothing p h = take_nothing (length p) p h

pub begins_bit : (b : Bool) (a : List Bool) (c : Bool) (p : List Bool) → BeginsWith (b ∷ a) (c ∷ p) → (c ≡ b) × BeginsWith a p
begins_bit b a c p h = let f : b ∷ take (length p) a ≡ c ∷ p = h in (cc, cc)

pub begins_longer : (b : Bool) (a p : List Bool) → BeginsWith a p → BeginsWith (b ∷ a) (b ∷ p)
begins_longer b a p h = ap (λ l. b ∷ l) h

module _ {V : Type 0} where
  -- ---- the rows in a half
  step_in : (b : Bool) (p : List Bool) (x : V) (rest : List (List Bool × V)) → below_step b (b ∷ p) x rest ≡ (p, x) ∷ rest
  step_in false p x rest = refl
  step_in true p x rest = refl

  step_kept : (b : Bool) (q : List Bool) (x : V) (rest : List (List Bool × V)) (row : List Bool × V) → Contains rest row → Contains (below_step b q x rest) row
  step_kept b [] x rest row h = h
  step_kept false (false ∷ p) x rest row h = contains_later (p, x) row rest h
  step_kept false (true ∷ p) x rest row h = h
  step_kept true (false ∷ p) x rest row h = h
  step_kept true (true ∷ p) x rest row h = contains_later (p, x) row rest h

  pub in_half : (b : Bool) (rows : List (List Bool × V)) (p : List Bool) (x : V) → Contains rows (b ∷ p, x) → Contains (below b rows) (p, x)
  in_half b [] p x h = absurd (contains_nothing (b ∷ p, x) h)
  in_half b (r ∷ rows) p x h = elim (contains_cases r (b ∷ p, x) rows h) [
    | inl e ↦
        let f : below_step b r.0 r.1 (below b rows) ≡ (p, x) ∷ below b rows =
        ap (λ (s : List Bool × V). below_step b s.0 s.1 (below b rows)) e ∙ step_in b p x (below b rows) in
        subst (λ l. Contains l (p, x)) (sym f) (contains_first (p, x) (below b rows))
    | inr k ↦ step_kept b r.0 r.1 (below b rows) (p, x) (in_half b rows p x k)
  ]

  -- the row in the whole
  abbrev pub longer : Bool → List Bool × V → List Bool × V
  longer b row = (b ∷ row.0, row.1)

  step_from : (b : Bool) (q : List Bool) (x : V) (rest : List (List Bool × V)) (row : List Bool × V) → Contains (below_step b q x rest) row
      → (◌≡◌ {A = List Bool × V} (q, x) (longer b row)) ⊎ Contains rest row
  step_from b [] x rest row h = inr h
  step_from false (false ∷ p) x rest row h = elim (contains_cases (p, x) row rest h) [
    | inl e ↦ inl (ap (longer false) e)
    | inr k ↦ inr k
  ]
  step_from false (true ∷ p) x rest row h = inr h
  step_from true (false ∷ p) x rest row h = inr h
  step_from true (true ∷ p) x rest row h = elim (contains_cases (p, x) row rest h) [
    | inl e ↦ inl (ap (longer true) e)
    | inr k ↦ inr k
  ]

  pub from_half : (b : Bool) (rows : List (List Bool × V)) (row : List Bool × V) → Contains (below b rows) row → Contains rows (longer b row)
  from_half b [] row h = absurd (contains_nothing row h)
  from_half b (r ∷ rows) row h = elim (step_from b r.0 r.1 (below b rows) row h) [
    | inl e ↦ subst (λ (s : List Bool × V). Contains (r ∷ rows) s) e (contains_first r rows)
    | inr k ↦ contains_later r (longer b row) rows (from_half b rows row k)
  ]

-- ---- the value of a row, in another type
module _ {V X : Type 0} (f : V → X) where
  abbrev pub seen_as : List (List Bool × V) → List (List Bool × X)
  seen_as [] = []
  seen_as (r ∷ rows) = (r.0, f r.1) ∷ seen_as rows

  seen_step : (b : Bool) (p : List Bool) (x : V) (rest : List (List Bool × V)) → below_step b p (f x) (seen_as rest) ≡ seen_as (below_step b p x rest)
  seen_step b [] x rest = refl
  seen_step false (false ∷ p) x rest = refl
  seen_step false (true ∷ p) x rest = refl
  seen_step true (false ∷ p) x rest = refl
  seen_step true (true ∷ p) x rest = refl

  pub below_seen : (b : Bool) (rows : List (List Bool × V)) → below b (seen_as rows) ≡ seen_as (below b rows)
  below_seen b [] = refl
  below_seen b (r ∷ rows) = ap (below_step b r.0 (f r.1)) (below_seen b rows) ∙ seen_step b r.0 r.1 (below b rows)

  pub length_seen : (rows : List (List Bool × V)) → length (seen_as rows) ≡ length rows
  length_seen [] = refl
  length_seen (r ∷ rows) = ap suc (length_seen rows)

  -- the value of a row, or that which is inherited where there is none
  abbrev pub value_or : X → Option (List Bool × V) → X
  value_or c None = c
  value_or c (Some row) = f row.1

  -- a row of no bits, which counts, or none
  abbrev pub HasRoot : X → List (List Bool × V) → Type 0
  HasRoot c rows = (row : List Bool × V) × Contains rows row × (row.0 ≡ []) × (own c (seen_as rows) ≡ f row.1)

  abbrev pub HasNoRoot : X → List (List Bool × V) → Type 0
  HasNoRoot c rows = ((row : List Bool × V) → Contains rows row → row.0 ≢ []) × (own c (seen_as rows) ≡ c)

  root_step : (c : X) (p : List Bool) (x : V) (rows : List (List Bool × V)) → HasRoot c rows ⊎ HasNoRoot c rows
      → HasRoot c ((p, x) ∷ rows) ⊎ HasNoRoot c ((p, x) ∷ rows)
  root_step c [] x rows h = inl (([], x), contains_first ([], x) rows, refl, refl)
  root_step c (b ∷ p) x rows h = elim h [
    | inl k ↦ inl (k.0, contains_later (b ∷ p, x) k.0 rows k.1, k.2, k.3)
    | inr k ↦ inr (
      λ row m e. elim (contains_cases (b ∷ p, x) row rows m) [
        | inl s ↦ let g : b ∷ p ≡ [] = ap (λ (r : List Bool × V). r.0) s ∙ e in absurd (cc)
        | inr n ↦ k.0 row n e
      ],
      k.1,
    )
  ]

  pub root_or_none : (c : X) (rows : List (List Bool × V)) → HasRoot c rows ⊎ HasNoRoot c rows
  root_or_none c [] = inr (λ row m. absurd (contains_nothing row m), refl)
  root_or_none c (r ∷ rows) = root_step c r.0 r.1 rows (root_or_none c rows)

  -- a row of an address, with the value that the rows forward it to
  abbrev pub Forwarded : X → List (List Bool × V) → List Bool → Type 0
  Forwarded c rows a = (row : Option (List Bool × V)) × IsLookedUp (λ p. p) a rows row × (forward c (seen_as rows) a ≡ value_or c row)

  root_longest : (a : List Bool) (rows : List (List Bool × V)) (row : List Bool × V) → Contains rows row → row.0 ≡ []
      → ((other : List Bool × V) → Contains rows other → BeginsWith a other.0 → other.0 ≡ [])
      → IsLongestRow (λ p. p) a rows row
  root_longest a rows row m e none = record {
    here = m;
    begins = subst (λ p. BeginsWith a p) (sym e) refl;
    longest = λ other k b. omega (arith, ap length (none other k b));
  }

  forwarded_here : (c : X) (rows : List (List Bool × V)) → Forwarded c rows []
  forwarded_here c rows = elim (root_or_none c rows) [
    | inl h ↦ (Some h.0, root_longest [] rows h.0 h.1 h.2 (λ other k b. begins_nothing other.0 b), h.3)
    | inr h ↦ (None, λ row m b. h.0 row m (begins_nothing row.0 b), h.1)
  ]

  -- a row that begins b ∷ a has no bits, or is one of the half
  rows_cases : (b : Bool) (a : List Bool) (rows : List (List Bool × V)) (p : List Bool) (x : V) → Contains rows (p, x) → BeginsWith (b ∷ a) p
      → (p ≡ []) ⊎ ((q : List Bool) × (p ≡ b ∷ q) × BeginsWith a q × Contains (below b rows) (q, x))
  rows_cases b a rows [] x m h = inl refl
  rows_cases b a rows (d ∷ p) x m h =
      let k = begins_bit b a d p h in
      inr (p, ap (λ e. e ∷ p) k.0, k.1, in_half b rows p x (subst (λ e. Contains rows (e ∷ p, x)) k.0 m))

  half_some : (b : Bool) (a : List Bool) (rows : List (List Bool × V)) (row : List Bool × V) → IsLongestRow (λ p. p) a (below b rows) row
      → IsLongestRow (λ p. p) (b ∷ a) rows (longer b row)
  half_some b a rows row h = record {
    here = from_half b rows row h.here;
    begins = begins_longer b a row.0 h.begins;
    longest = λ other m k. elim (rows_cases b a rows other.0 other.1 m k) [
      | inl e ↦ omega (arith, ap length e)
      | inr q ↦ omega (arith, ap length q.1, h.longest (q.0, other.1) q.3 q.2)
    ];
  }

  half_value : (c : X) (rows : List (List Bool × V)) (b : Bool) (a : List Bool)
      → forward c (seen_as rows) (b ∷ a) ≡ forward (own c (seen_as rows)) (seen_as (below b rows)) a
  half_value c rows b a = ap (λ l. forward (own c (seen_as rows)) l a) (below_seen b rows)

  half_cases : (c : X) (rows : List (List Bool × V)) (b : Bool) (a : List Bool) (row : Option (List Bool × V)) → IsLookedUp (λ p. p) a (below b rows) row
      → forward (own c (seen_as rows)) (seen_as (below b rows)) a ≡ value_or (own c (seen_as rows)) row → Forwarded c rows (b ∷ a)
  half_cases c rows b a (Some row) h e = (Some (longer b row), half_some b a rows row h, half_value c rows b a ∙ e)
  half_cases c rows b a None h e = elim (root_or_none c rows) [
    | inl k ↦ (
      Some k.0,
      root_longest (b ∷ a) rows k.0 k.1 k.2 (λ other m n. elim (rows_cases b a rows other.0 other.1 m n) [
        | inl s ↦ s
        | inr q ↦ absurd (h (q.0, other.1) q.3 q.2)
      ]),
      half_value c rows b a ∙ e ∙ k.3,
    )
    | inr k ↦ (
      None,
      λ row m n. elim (rows_cases b a rows row.0 row.1 m n) [
        | inl s ↦ k.0 row m s
        | inr q ↦ h (q.0, row.1) q.3 q.2
      ],
      half_value c rows b a ∙ e ∙ k.1,
    )
  ]

  -- some row counts for each address, or none, and its value is what the rows forward it to
  pub forwarded : (c : X) (rows : List (List Bool × V)) (a : List Bool) → Forwarded c rows a
  forwarded c rows [] = forwarded_here c rows
  forwarded c rows (b ∷ a) =
      let h = forwarded (own c (seen_as rows)) (below b rows) a in
      half_cases c rows b a h.0 h.1 h.2
