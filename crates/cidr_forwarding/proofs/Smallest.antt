-- A smallest table: the rows that are put have the same forwarding, and no rows with it are fewer.
use Rattle.std.proofs.Common.{◌≡◌, ℕ, ◌≤◌, Bool, true, false, List, [], ◌∷◌, length, take, Option, Some, None, refl, sym, ap, ◌∙◌, subst, arith, true≢false}
use Rattle.std.specs.Bool.{Decides}
use Rattle.std.specs.List.Sorted.{IsStrictlySortedBy}
use Rattle.std.specs.Map.{keys_of}
use Rattle.std.specs.Option.{option_map, option_eq}
use Rattle.cidr.specs.model.Bits.{bit_cmp}
use Rattle.cidr.specs.model.Network.{BeginsWith}
use Rattle.cidr_table.specs.model.Prefixes.{IsLookedUp, IsValueLookedUp}
use Rattle.cidr_forwarding.specs.Forwarding.{ForwardSame, IsSmallest, row_value, ForwardSameHoled, IsSmallestHoled}
use Rattle.cidr_forwarding.proofs.RowParts.{forward, AreFree}
use Rattle.cidr_forwarding.proofs.Regions.{at, Fits}
use Rattle.cidr_forwarding.proofs.Fewest.{bound, exact, as_many, all_free}
use Rattle.cidr_forwarding.proofs.Looking.{seen_as, length_seen, value_or, forwarded}
use Rattle.cidr_forwarding.proofs.Shapes.{at_region}
use Rattle.cidr_forwarding.proofs.Order.{Ascend, one_row, ascends}
use Rattle.cidr_forwarding.specs.Trees.{region, AllFitWidth}
use Rattle.cidr_forwarding.specs.Choices.{is_free, put}

-- ---- one longest row
begins_same : (a p q : List Bool) → BeginsWith a p → BeginsWith a q → length p ≡ length q → p ≡ q
begins_same a p q h k e = sym h ∙ (ap (λ n. take n a) e ∙ k)

module _ {V : Type 0} where
  one_looked_up : (rows : List (List Bool × V)) → Ascend rows → (a : List Bool) (row other : Option (List Bool × V))
      → IsLookedUp (λ p. p) a rows row → IsLookedUp (λ p. p) a rows other → row ≡ other
  one_looked_up rows s a None None h k = refl
  one_looked_up rows s a None (Some other) h k = absurd (h other k.here k.begins)
  one_looked_up rows s a (Some row) None h k = absurd (k row h.here h.begins)
  one_looked_up rows s a (Some row) (Some other) h k =
      let e : length row.0 ≡ length other.0 = omega (arith, h.longest other k.here k.begins, k.longest row h.here h.begins) in
      ap Some (one_row rows row other s h.here k.here (begins_same a row.0 other.0 h.begins k.begins e))

  some_value : (row : Option (List Bool × V)) → value_or Some None row ≡ option_map (λ (r : List Bool × V). r.1) row
  some_value None = refl
  some_value (Some row) = refl

  -- the value that is looked up is what the rows forward to
  pub looks_up : (rows : List (List Bool × V)) (a : List Bool) → IsValueLookedUp (λ p. p) a rows (forward None (seen_as Some rows) a)
  looks_up rows a = let f = forwarded Some None rows a in (f.0, f.1, f.2 ∙ some_value f.0)

  pub only_value : (rows : List (List Bool × V)) → Ascend rows → (a : List Bool) (value : Option V) → IsValueLookedUp (λ p. p) a rows value
      → value ≡ forward None (seen_as Some rows) a
  only_value rows s a value h =
      let f = forwarded Some None rows a in
      let e : h.0 ≡ f.0 = one_looked_up rows s a h.0 f.0 h.1 f.1 in
      h.2 ∙ (ap (option_map (λ (r : List Bool × V). r.1)) e ∙ (sym (some_value f.0) ∙ sym f.2))

  -- ---- rows with a value each, as rows with `Some` value each
  seen_free : (rows : List (List Bool × V)) → AreFree (is_free false) (seen_as Some rows)
  seen_free [] = tt
  seen_free (r ∷ rows) = (refl, seen_free rows)

  abbrev pub strip : List (List Bool × Option V) → List (List Bool × V)
  strip [] = []
  strip (r ∷ rows) = elim r.1 as (λ _. List (List Bool × V)) [ None ↦ strip rows | Some v ↦ (r.0, v) ∷ strip rows ]

  keep_step : (p : List Bool) (o : Option V) (rest : List (List Bool × V)) (seen : List (List Bool × Option V)) → (is_free false) o ≡ true → seen_as Some rest ≡ seen
      → seen_as Some (elim o as (λ _. List (List Bool × V)) [ None ↦ rest | Some v ↦ (p, v) ∷ rest ]) ≡ (p, o) ∷ seen
  keep_step p None rest seen h e = absurd (true≢false (sym h))
  keep_step p (Some v) rest seen h e = ap (λ rows. (p, Some v) ∷ rows) e

  pub strip_seen : (rows : List (List Bool × Option V)) → AreFree (is_free false) rows → seen_as Some (strip rows) ≡ rows
  strip_seen [] h = refl
  strip_seen (r ∷ rows) h = keep_step r.0 r.1 (strip rows) rows h.0 (strip_seen rows h.1)

module _ {V X : Type 0} (f : V → X) where
  pub keys_seen : (rows : List (List Bool × V)) → keys_of (seen_as f rows) ≡ keys_of rows
  keys_seen [] = refl
  keys_seen (r ∷ rows) = ap (λ keys. r.0 ∷ keys) (keys_seen rows)

module _ {V : Type 0} (same : V → V → Bool) (decides : (x y : V) → Decides (same x y) (x ≡ y)) where
  pub decides_option : (x y : Option V) → Decides (option_eq same x y) (x ≡ y)
  decides_option None None = (λ _. refl, λ _. refl)
  decides_option None (Some y) = (λ e. absurd (true≢false (sym e)), λ e. absurd (cc))
  decides_option (Some x) None = (λ e. absurd (true≢false (sym e)), λ e. absurd (cc))
  decides_option (Some x) (Some y) = (λ e. ap Some ((decides x y).0 e), λ e. (decides x y).1 (cc))

  only_none : (x : Option V) → (is_free false) x ≡ false → x ≡ None
  only_none None e = refl
  only_none (Some v) e = absurd (true≢false e)

  both_none : (x y : Option V) → (is_free false) x ≡ false → (is_free false) y ≡ false → x ≡ y
  both_none x y h k = only_none x h ∙ sym (only_none y k)

  module _ (IsAddress : List Bool → Type 0) (w : ℕ) (rows : List (List Bool × V)) (ascend : Ascend rows) (within : AllFitWidth w (seen_as Some rows))
      (fits : Fits (region w None (seen_as Some rows)) IsAddress) where
    rows_at : (a : List Bool) → IsAddress a → forward None (seen_as Some rows) a ≡ at (region w None (seen_as Some rows)) a
    rows_at a m = sym (at_region w None (seen_as Some rows) IsAddress within fits a m)

    -- ---- with no holes
    abbrev pub put_rows : List (List Bool × Option V)
    put_rows = put (option_eq same) (is_free false) None (region w None (seen_as Some rows)) None

    unfoldable pub smallest_rows : List (List Bool × V)
    smallest_rows = strip put_rows

    rows_seen : seen_as Some smallest_rows ≡ put_rows
    unfolding smallest_rows
    rows_seen =
        strip_seen put_rows
        (all_free (option_eq same) (is_free false) None decides_option both_none (region w None (seen_as Some rows)) (only_none))

    ascend_rows : Ascend smallest_rows
    ascend_rows =
        subst (IsStrictlySortedBy bit_cmp) (sym (ap keys_of rows_seen) ∙ keys_seen Some smallest_rows)
        (ascends (option_eq same) (is_free false) None (region w None (seen_as Some rows)) None)

    rows_forward : (a : List Bool) → IsAddress a → forward None (seen_as Some rows) a ≡ forward None (seen_as Some smallest_rows) a
    rows_forward a m =
        rows_at a m ∙ sym (ap (λ l. forward None l a) rows_seen
        ∙ exact (option_eq same) (is_free false) None decides_option (region w None (seen_as Some rows)) IsAddress fits None a m)

    rows_same : ForwardSame (λ p. p) IsAddress rows smallest_rows
    rows_same a m value = (
      λ h. subst (IsValueLookedUp (λ p. p) a smallest_rows) (sym (only_value rows ascend a value h ∙ rows_forward a m)) (looks_up smallest_rows a),
      λ h. subst (IsValueLookedUp (λ p. p) a rows) (sym (only_value smallest_rows ascend_rows a value h ∙ sym (rows_forward a m))) (looks_up rows a),
    )

    rows_fewest : (other : List (List Bool × V)) → ForwardSame (λ p. p) IsAddress rows other → length smallest_rows ≤ length other
    rows_fewest other h =
        let b = bound (option_eq same) (is_free false) decides_option (region w None (seen_as Some rows)) IsAddress None (seen_as Some other) fits (seen_free other)
        (λ a m. only_value rows ascend a (forward None (seen_as Some other) a) ((h a m (forward None (seen_as Some other) a)).1 (looks_up other a)) ∙ rows_at a m) in
        omega (
          arith,
          b,
          length_seen Some other,
          length_seen Some smallest_rows,
          ap length rows_seen,
          as_many (option_eq same) (is_free false) None decides_option (region w None (seen_as Some rows)) None,
        )

    pub is_smallest : IsSmallest IsAddress rows smallest_rows
    is_smallest = record { ascending = ascend_rows; same = rows_same; fewest = rows_fewest }

  -- ---- with holes
  seen_itself : (holed : List (List Bool × Option V)) → seen_as (λ x. x) holed ≡ holed
  seen_itself [] = refl
  seen_itself (r ∷ holed) = ap (λ rows. r ∷ rows) (seen_itself holed)

  any_free : (holed : List (List Bool × Option V)) → AreFree (is_free true) holed
  any_free [] = tt
  any_free (r ∷ holed) = (refl, any_free holed)

  holed_value : (row : Option (List Bool × Option V)) → value_or (λ x. x) None row ≡ row_value (option_map (λ (r : List Bool × Option V). r.1) row)
  holed_value None = refl
  holed_value (Some row) = elim row.1 as (λ v. v ≡ row_value (Some v)) [ None ↦ refl | Some v ↦ refl ]

  abbrev pub HoledLookedUp : List Bool → List (List Bool × Option V) → Option V → Type 0
  HoledLookedUp a holed value = (found : Option (Option V)) × IsValueLookedUp (λ p. p) a holed found × (value ≡ row_value found)

  holed_looks_up : (holed : List (List Bool × Option V)) (a : List Bool) → HoledLookedUp a holed (forward None holed a)
  holed_looks_up holed a =
      let f = forwarded (λ (x : Option V). x) None holed a in
      let e : forward None holed a ≡ value_or (λ x. x) None f.0 = ap (λ l. forward None l a) (sym (seen_itself holed)) ∙ f.2 in
      (option_map (λ (r : List Bool × Option V). r.1) f.0, (f.0, f.1, refl), e ∙ holed_value f.0)

  holed_only : (holed : List (List Bool × Option V)) → Ascend holed → (a : List Bool) (value : Option V) → HoledLookedUp a holed value → value ≡ forward None holed a
  holed_only holed s a value h =
      let f = forwarded (λ (x : Option V). x) None holed a in
      let e : forward None holed a ≡ value_or (λ x. x) None f.0 = ap (λ l. forward None l a) (sym (seen_itself holed)) ∙ f.2 in
      let g : h.1.0 ≡ f.0 = one_looked_up holed s a h.1.0 f.0 h.1.1 f.1 in
      h.2 ∙ (ap row_value (h.1.2 ∙ ap (option_map (λ (r : List Bool × Option V). r.1)) g) ∙ (sym (holed_value f.0) ∙ sym e))

  module _ (IsAddress : List Bool → Type 0) (w : ℕ) (rows : List (List Bool × V)) (ascend : Ascend rows) (within : AllFitWidth w (seen_as Some rows))
      (fits : Fits (region w None (seen_as Some rows)) IsAddress) where
    unfoldable pub smallest_holed : List (List Bool × Option V)
    smallest_holed = put (option_eq same) (is_free true) None (region w None (seen_as Some rows)) None

    ascend_holed : Ascend smallest_holed
    unfolding smallest_holed
    ascend_holed = ascends (option_eq same) (is_free true) None (region w None (seen_as Some rows)) None

    holed_forward : (a : List Bool) → IsAddress a → forward None (seen_as Some rows) a ≡ forward None smallest_holed a
    unfolding smallest_holed
    holed_forward a m =
        rows_at IsAddress w rows ascend within fits a m
        ∙ sym (exact (option_eq same) (is_free true) None decides_option (region w None (seen_as Some rows)) IsAddress fits None a m)

    holed_same : ForwardSameHoled (λ p. p) IsAddress rows smallest_holed
    holed_same a m value = (
      λ h. subst (HoledLookedUp a smallest_holed) (sym (only_value rows ascend a value h ∙ holed_forward a m)) (holed_looks_up smallest_holed a),
      λ h. subst (IsValueLookedUp (λ p. p) a rows) (sym (holed_only smallest_holed ascend_holed a value h ∙ sym (holed_forward a m))) (looks_up rows a),
    )

    holed_fewest : (other : List (List Bool × Option V)) → ForwardSameHoled (λ p. p) IsAddress rows other → length smallest_holed ≤ length other
    unfolding smallest_holed
    holed_fewest other h =
        let b = bound (option_eq same) (is_free true) decides_option (region w None (seen_as Some rows)) IsAddress None other fits (any_free other)
        (λ a m. only_value rows ascend a (forward None other a) ((h a m (forward None other a)).1 (holed_looks_up other a)) ∙ rows_at IsAddress w rows ascend within fits a m) in
        omega (arith, b, as_many (option_eq same) (is_free true) None decides_option (region w None (seen_as Some rows)) None)

    pub holed_fits : length smallest_holed ≤ length rows
    unfolding smallest_holed
    holed_fits =
        let b = bound (option_eq same) (is_free true) decides_option (region w None (seen_as Some rows)) IsAddress None (seen_as Some rows) fits (any_free (seen_as Some rows))
        (λ a m. rows_at IsAddress w rows ascend within fits a m) in
        omega (arith, b, as_many (option_eq same) (is_free true) None decides_option (region w None (seen_as Some rows)) None, length_seen Some rows)

    pub is_smallest_holed : IsSmallestHoled IsAddress rows smallest_holed
    is_smallest_holed = record { ascending = ascend_holed; same = holed_same; fewest = holed_fewest }
