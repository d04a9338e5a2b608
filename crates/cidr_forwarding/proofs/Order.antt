-- The rows that are put ascend; ascending rows have each network once.
use Rattle.std.proofs.Common.{◌≡◌, Bool, true, false, cond, List, [], ◌∷◌, ◌++◌, refl, sym, ap, ◌∙◌, subst, inl, inr}
use Rattle.std.specs.List.{Contains, AllByRecursion}
use Rattle.std.specs.List.Sorted.{IsStrictlySortedBy}
use Rattle.std.specs.Map.{keys_of}
use Rattle.std.specs.declared.cmp.Ordering.TheVariants.{Less}
use Rattle.cidr.specs.model.Bits.{bit_cmp}
use Rattle.cidr_table.proofs.MapLaws.{contains_cases, contains_nothing}
use Rattle.cidr_forwarding.specs.Trees.{Region, Even, Halves, under}
use Rattle.cidr_forwarding.specs.Choices.{is_listed, candidates, pick, fill, put}

less_not_itself : (p : List Bool) → ¬ (bit_cmp p p ≡ Less)
less_not_itself [] h = cc
less_not_itself (false ∷ p) h = less_not_itself p h
less_not_itself (true ∷ p) h = less_not_itself p h

pub no_keys : IsStrictlySortedBy bit_cmp []
unfolding IsStrictlySortedBy
no_keys = tt

module _ {X : Type 0} where
  abbrev pub Ascend : List (List Bool × X) → Type 0
  Ascend rows = IsStrictlySortedBy bit_cmp (keys_of rows)

  abbrev Above : List Bool → List (List Bool × X) → Type 0
  Above p rows = AllByRecursion (λ q. bit_cmp p q ≡ Less) (keys_of rows)

  above_append : (p : List Bool) (xs ys : List (List Bool × X)) → Above p xs → Above p ys → Above p (xs ++ ys)
  above_append p [] ys h k = k
  above_append p (x ∷ xs) ys h k = (h.0, above_append p xs ys h.1 k)

  above_low : (p : List Bool) (rows : List (List Bool × X)) → Above p rows → Above (false ∷ p) (under false rows)
  above_low p [] h = tt
  above_low p (r ∷ rows) h = (h.0, above_low p rows h.1)

  above_high : (p : List Bool) (rows : List (List Bool × X)) → Above p rows → Above (true ∷ p) (under true rows)
  above_high p [] h = tt
  above_high p (r ∷ rows) h = (h.0, above_high p rows h.1)

  low_high : (p : List Bool) (rows : List (List Bool × X)) → Above (false ∷ p) (under true rows)
  low_high p [] = tt
  low_high p (r ∷ rows) = (refl, low_high p rows)

  above_none : (b : Bool) (rows : List (List Bool × X)) → Above [] (under b rows)
  above_none b [] = tt
  above_none b (r ∷ rows) = (refl, above_none b rows)

  ascend_high : (rows : List (List Bool × X)) → Ascend rows → Ascend (under true rows)
  unfolding IsStrictlySortedBy
  ascend_high [] h = tt
  ascend_high (r ∷ rows) h = (above_high r.0 rows h.0, ascend_high rows h.1)

  pub ascend_halves : (lows highs : List (List Bool × X)) → Ascend lows → Ascend highs → Ascend (under false lows ++ under true highs)
  unfolding IsStrictlySortedBy
  ascend_halves [] highs h k = ascend_high highs k
  ascend_halves (r ∷ lows) highs h k =
      (above_append (false ∷ r.0) (under false lows) (under true highs) (above_low r.0 lows h.0) (low_high r.0 highs), ascend_halves lows highs h.1 k)

  pub row_before : (x : X) (rows : List (List Bool × X)) → Above [] rows → Ascend rows → Ascend (([], x) ∷ rows)
  unfolding IsStrictlySortedBy
  row_before x rows a h = (a, h)

  -- ---- a network has one row
  above_contains : (p : List Bool) (rows : List (List Bool × X)) (row : List Bool × X) → Above p rows → Contains rows row → bit_cmp p row.0 ≡ Less
  above_contains p [] row h m = absurd (contains_nothing row m)
  above_contains p (r ∷ rows) row h m = elim (contains_cases r row rows m) [
    | inl e ↦ subst (λ (s : List Bool × X). bit_cmp p s.0 ≡ Less) e h.0
    | inr k ↦ above_contains p rows row h.1 k
  ]

  pub one_row : (rows : List (List Bool × X)) (row other : List Bool × X) → Ascend rows → Contains rows row → Contains rows other → row.0 ≡ other.0 → row ≡ other
  unfolding IsStrictlySortedBy
  one_row [] row other h m n e = absurd (contains_nothing row m)
  one_row (r ∷ rows) row other h m n e = elim (contains_cases r row rows m) [
    | inl f ↦ elim (contains_cases r other rows n) [
      | inl g ↦ sym f ∙ g
      | inr k ↦
          let less : bit_cmp r.0 other.0 ≡ Less = above_contains r.0 rows other h.0 k in
          let s : r.0 ≡ other.0 = ap (λ (t : List Bool × X). t.0) f ∙ e in
          absurd (less_not_itself other.0 (subst (λ p. bit_cmp p other.0 ≡ Less) s less))
    ]
    | inr k ↦ elim (contains_cases r other rows n) [
      | inl g ↦
          let less : bit_cmp r.0 row.0 ≡ Less = above_contains r.0 rows row h.0 k in
          let s : r.0 ≡ row.0 = ap (λ (t : List Bool × X). t.0) g ∙ sym e in
          absurd (less_not_itself row.0 (subst (λ p. bit_cmp p row.0 ≡ Less) s less))
      | inr l ↦ one_row rows row other h.1 k l e
    ]
  ]

module _ {X : Type 0} (same : X → X → Bool) (free : X → Bool) (none : X) where
  fill_below : (t : Region X) (c : X) → Above [] (fill same free none t c)
  fill_below (Even v) c = tt
  fill_below (Halves l r) c =
      above_append [] (under false (put same free none l c)) (under true (put same free none r c))
      (above_none false (put same free none l c)) (above_none true (put same free none r c))

  put_ascends : (t : Region X) → ((x : X) → Ascend (fill same free none t x)) → (c : X) → Ascend (put same free none t c)
  put_ascends t inside c = elim (is_listed same (candidates same free t) c) as (λ b. Ascend (cond b (fill same free none t c)
      (([], pick same free none t) ∷ fill same free none t (pick same free none t)))) [
        | true ↦ inside c
        | false ↦ row_before (pick same free none t) (fill same free none t (pick same free none t)) (fill_below t (pick same free none t)) (inside (pick same free none t))
      ]

  pub fill_ascends : (t : Region X) (c : X) → Ascend (fill same free none t c)
  fill_ascends (Even v) c = no_keys
  fill_ascends (Halves l r) c =
      ascend_halves (put same free none l c) (put same free none r c) (put_ascends l (fill_ascends l) c) (put_ascends r (fill_ascends r) c)

  pub ascends : (t : Region X) (c : X) → Ascend (put same free none t c)
  ascends t c = put_ascends t (fill_ascends t) c
