-- Rows with other values in the place of theirs.
use Rattle.std.proofs.Common.{◌≡◌, ◌≤◌, Bool, List, [], ◌∷◌, length, map, Option, Some, None, refl, sym, ap, ◌∙◌, subst, arith, inl, inr}
use Rattle.std.specs.List.{Contains}
use Rattle.std.specs.List.Sorted.{IsStrictlySortedBy}
use Rattle.std.specs.Map.{keys_of}
use Rattle.std.specs.Option.{option_map}
use Rattle.std.proofs.lemmas.List.{length-map}
use Rattle.cidr.specs.model.Bits.{bit_cmp}
use Rattle.cidr.specs.model.Network.{BeginsWith}
use Rattle.cidr_table.specs.model.Prefixes.{IsLongestRow, IsValueLookedUp}
use Rattle.cidr_table.proofs.MapLaws.{contains_first, contains_later, contains_cases, contains_nothing}
use Rattle.cidr_forwarding.specs.Forwarding.{ForwardSame, ForwardSameHoled, IsSmallest, IsSmallestHoled, row_value}

-- a row with the value that f makes of its own
abbrev pub revalue : {V W : Type 0} → (V → W) → List Bool × V → List Bool × W
revalue f row = (row.0, f row.1)

-- the value of an address
abbrev pub ValueAt : {V : Type 0} → List Bool → List (List Bool × V) → Option V → Type 0
ValueAt a rows value = IsValueLookedUp (λ (p : List Bool). p) a rows value

module _ {V W : Type 0} (f : V → W) where
  pub into : (rows : List (List Bool × V)) (row : List Bool × V) → Contains rows row → Contains (map (revalue f) rows) (revalue f row)
  into [] row m = absurd (contains_nothing row m)
  into (r ∷ rows) row m = elim (contains_cases r row rows m) [
    | inl e ↦ subst (λ (x : List Bool × V). Contains (map (revalue f) (r ∷ rows)) (revalue f x)) e (contains_first (revalue f r) (map (revalue f) rows))
    | inr k ↦ contains_later (revalue f r) (revalue f row) (map (revalue f) rows) (into rows row k)
  ]

  pub out_of : (rows : List (List Bool × V)) (seen : List Bool × W) → Contains (map (revalue f) rows) seen → (row : List Bool × V) × Contains rows row × (revalue f row ≡ seen)
  out_of [] seen m = absurd (contains_nothing seen m)
  out_of (r ∷ rows) seen m = elim (contains_cases (revalue f r) seen (map (revalue f) rows) m) [
    | inl e ↦ (r, contains_first r rows, e)
    | inr k ↦ let h = out_of rows seen k in (h.0, contains_later r h.0 rows h.1, h.2)
  ]

  pub keys_same : (rows : List (List Bool × V)) → keys_of (map (revalue f) rows) ≡ keys_of rows
  keys_same [] = refl
  keys_same (r ∷ rows) = ap (λ (l : List (List Bool)). r.0 ∷ l) (keys_same rows)

  module _ (a : List Bool) (rows : List (List Bool × V)) where
    seen_longest : (row : List Bool × V) → IsLongestRow (λ (p : List Bool). p) a rows row → IsLongestRow (λ (p : List Bool). p) a (map (revalue f) rows) (revalue f row)
    seen_longest row h = record {
      here = into rows row h.here;
      begins = h.begins;
      longest = λ other m b.
          let o = out_of rows other m in
          let e : o.0.0 ≡ other.0 = ap (λ (x : List Bool × W). x.0) o.2 in
          subst (λ (p : List Bool). length p ≤ length row.0) e (h.longest o.0 o.1 (subst (BeginsWith a) (sym e) b));
    }

    from_longest : (row : List Bool × V) → Contains rows row → IsLongestRow (λ (p : List Bool). p) a (map (revalue f) rows) (revalue f row)
        → IsLongestRow (λ (p : List Bool). p) a rows row
    from_longest row m h = record {
      here = m;
      begins = h.begins;
      longest = λ other n b. h.longest (revalue f other) (into rows other n) b;
    }

    pub seen_value : (value : Option V) → ValueAt a rows value → ValueAt a (map (revalue f) rows) (option_map f value)
    seen_value value (None, h, e) = (
      None,
      λ seen m b.
          let o = out_of rows seen m in
          h o.0 o.1 (subst (BeginsWith a) (sym (ap (λ (x : List Bool × W). x.0) o.2)) b),
      ap (option_map f) e,
    )
    seen_value value (Some row, h, e) = (Some (revalue f row), seen_longest row h, ap (option_map f) e)

    pub from_value : (seen : Option W) → ValueAt a (map (revalue f) rows) seen → (value : Option V) × ValueAt a rows value × (seen ≡ option_map f value)
    from_value seen (None, h, e) = (None, (None, λ row m b. h (revalue f row) (into rows row m) b, refl), e)
    from_value seen (Some r, h, e) =
        let o = out_of rows r h.here in (
          Some o.0.1,
          (
            Some o.0,
            from_longest o.0 o.1 (subst (λ (x : List Bool × W). IsLongestRow (λ (p : List Bool). p) a (map (revalue f) rows) x) (sym o.2) h),
            refl,
          ),
          e ∙ ap (λ (x : List Bool × W). Some x.1) (sym o.2),
        )

module _ {V W : Type 0} (f : V → W) (IsAddress : List Bool → Type 0) where
  same_revalued : (rows smallest : List (List Bool × V)) → ForwardSame (λ (p : List Bool). p) IsAddress rows smallest
      → ForwardSame (λ (p : List Bool). p) IsAddress (map (revalue f) rows) (map (revalue f) smallest)
  same_revalued rows smallest same a m value = (
    λ found.
        let h = from_value f a rows value found in
        subst (ValueAt a (map (revalue f) smallest)) (sym h.2) (seen_value f a smallest h.0 ((same a m h.0).0 h.1)),
    λ found.
        let h = from_value f a smallest value found in
        subst (ValueAt a (map (revalue f) rows)) (sym h.2) (seen_value f a rows h.0 ((same a m h.0).1 h.1)),
  )

  -- the value of a row that may be a hole
  value_revalued : (found : Option (Option V)) → row_value (option_map (option_map f) found) ≡ option_map f (row_value found)
  value_revalued None = refl
  value_revalued (Some value) = refl

  same_holed : (rows : List (List Bool × V)) (holed : List (List Bool × Option V)) → ForwardSameHoled (λ (p : List Bool). p) IsAddress rows holed
      → ForwardSameHoled (λ (p : List Bool). p) IsAddress (map (revalue f) rows) (map (revalue (option_map f)) holed)
  same_holed rows holed same a m value = (
    λ found.
        let h = from_value f a rows value found in
        let k = (same a m h.0).0 h.1 in (
          option_map (option_map f) k.0,
          seen_value (option_map f) a holed k.0 k.1,
          h.2 ∙ (ap (option_map f) k.2 ∙ sym (value_revalued k.0)),
        ),
    λ found.
        let h = from_value (option_map f) a holed found.0 found.1 in
        let k = (same a m (row_value h.0)).1 (h.0, h.1, refl) in
        subst (ValueAt a (map (revalue f) rows)) (sym (found.2 ∙ (ap row_value h.2 ∙ value_revalued h.0))) (seen_value f a rows (row_value h.0) k),
  )

-- g is f the other way for the values of the rows
module _ {V W : Type 0} (f : V → W) (g : W → V) (IsAddress : List Bool → Type 0) (rows : List (List Bool × V))
    (back : (row : List Bool × V) → Contains rows row → g (f row.1) ≡ row.1) where
  back_again : (a : List Bool) (value : Option V) → ValueAt a rows value → option_map g (option_map f value) ≡ value
  back_again a value (None, h, e) = subst (λ (k : Option V). option_map g (option_map f k) ≡ k) (sym e) refl
  back_again a value (Some row, h, e) = subst (λ (k : Option V). option_map g (option_map f k) ≡ k) (sym e) (ap (λ (v : V). Some v) (back row h.here))

  same_back : (other : List (List Bool × W)) → ForwardSame (λ (p : List Bool). p) IsAddress (map (revalue f) rows) other
      → ForwardSame (λ (p : List Bool). p) IsAddress rows (map (revalue g) other)
  same_back other same a m value = (
    λ found.
        subst (ValueAt a (map (revalue g) other)) (back_again a value found)
        (seen_value g a other (option_map f value) ((same a m (option_map f value)).0 (seen_value f a rows value found))),
    λ found.
        let h = from_value g a other value found in
        let k = from_value f a rows h.0 ((same a m h.0).1 h.1) in
        subst (ValueAt a rows) (sym (h.2 ∙ (ap (option_map g) k.2 ∙ back_again a k.0 k.1))) k.1,
  )

  holed_back : (other : List (List Bool × Option W)) → ForwardSameHoled (λ (p : List Bool). p) IsAddress (map (revalue f) rows) other
      → ForwardSameHoled (λ (p : List Bool). p) IsAddress rows (map (revalue (option_map g)) other)
  holed_back other same a m value = (
    λ found.
        let k = (same a m (option_map f value)).0 (seen_value f a rows value found) in (
          option_map (option_map g) k.0,
          seen_value (option_map g) a other k.0 k.1,
          sym (value_revalued g IsAddress k.0 ∙ (ap (option_map g) (sym k.2) ∙ back_again a value found)),
        ),
    λ found.
        let h = from_value (option_map g) a other found.0 found.1 in
        let k = from_value f a rows (row_value h.0) ((same a m (row_value h.0)).1 (h.0, h.1, refl)) in
        subst (ValueAt a rows)
        (sym (found.2 ∙ (ap row_value h.2 ∙ (value_revalued g IsAddress h.0 ∙ (ap (option_map g) k.2 ∙ back_again a k.0 k.1))))) k.1,
  )

  -- a smallest table is one also with the other values
  pub revalued_smallest : (smallest : List (List Bool × V)) → IsSmallest IsAddress rows smallest → IsSmallest IsAddress (map (revalue f) rows) (map (revalue f) smallest)
  revalued_smallest smallest is = record {
    ascending = subst (IsStrictlySortedBy bit_cmp) (sym (keys_same f smallest)) is.ascending;
    same = same_revalued f IsAddress rows smallest is.same;
    fewest = λ other same.
        omega (arith, length-map smallest (revalue f), length-map other (revalue g), is.fewest (map (revalue g) other) (same_back other same));
  }

  pub revalued_holed : (smallest : List (List Bool × Option V)) → IsSmallestHoled IsAddress rows smallest
      → IsSmallestHoled IsAddress (map (revalue f) rows) (map (revalue (option_map f)) smallest)
  revalued_holed smallest is = record {
    ascending = subst (IsStrictlySortedBy bit_cmp) (sym (keys_same (option_map f) smallest)) is.ascending;
    same = same_holed f IsAddress rows smallest is.same;
    fewest = λ other same.
        omega (
          arith,
          length-map smallest (revalue (option_map f)),
          length-map other (revalue (option_map g)),
          is.fewest (map (revalue (option_map g)) other) (holed_back other same),
        );
  }
