-- The same forwarding of rows of lists of bits, said of rows of a type of networks.
use Rattle.std.proofs.Common.{◌≡◌, ◌↔◌, ◌≤◌, Bool, List, [], ◌∷◌, length, Option, Some, None, sym, ap, ◌∙◌, subst, inl, inr}
use Rattle.std.specs.List.{Contains}
use Rattle.std.specs.Option.{option_map}
use Rattle.cidr.specs.model.Network.{BeginsWith}
use Rattle.cidr_table.specs.model.Prefixes.{IsLongestRow, IsLookedUp, IsValueLookedUp}
use Rattle.cidr_forwarding.specs.Forwarding.{in_bits, ForwardSame, ForwardSameHoled}
use Rattle.cidr_table.proofs.MapLaws.{contains_first, contains_later, contains_cases, contains_nothing}

module _ {C V : Type 0} (bits : C → List Bool) where
  abbrev as_bits : C × V → List Bool × V
  as_bits row = (bits row.0, row.1)

  into : (rows : List (C × V)) (row : C × V) → Contains rows row → Contains (in_bits bits rows) (as_bits row)
  into [] row m = absurd (contains_nothing row m)
  into (r ∷ rows) row m = elim (contains_cases r row rows m) [
    | inl e ↦ subst (λ (x : C × V). Contains (in_bits bits (r ∷ rows)) (as_bits x)) e (contains_first (as_bits r) (in_bits bits rows))
    | inr k ↦ contains_later (as_bits r) (as_bits row) (in_bits bits rows) (into rows row k)
  ]

  out_of : (rows : List (C × V)) (seen : List Bool × V) → Contains (in_bits bits rows) seen → (row : C × V) × Contains rows row × (as_bits row ≡ seen)
  out_of [] seen m = absurd (contains_nothing seen m)
  out_of (r ∷ rows) seen m = elim (contains_cases (as_bits r) seen (in_bits bits rows) m) [
    | inl e ↦ (r, contains_first r rows, e)
    | inr k ↦ let h = out_of rows seen k in (h.0, contains_later r h.0 rows h.1, h.2)
  ]

  module _ (a : List Bool) (rows : List (C × V)) where
    seen_longest : (row : C × V) → IsLongestRow bits a rows row → IsLongestRow (λ p. p) a (in_bits bits rows) (as_bits row)
    seen_longest row h = record {
      here = into rows row h.here;
      begins = h.begins;
      longest = λ other m b.
          let o = out_of rows other m in
          let e : bits o.0.0 ≡ other.0 = ap (λ (x : List Bool × V). x.0) o.2 in
          subst (λ p. length p ≤ length (bits row.0)) e (h.longest o.0 o.1 (subst (BeginsWith a) (sym e) b));
    }

    from_longest : (row : C × V) → Contains rows row → IsLongestRow (λ p. p) a (in_bits bits rows) (as_bits row) → IsLongestRow bits a rows row
    from_longest row m h = record {
      here = m;
      begins = h.begins;
      longest = λ other n b. h.longest (as_bits other) (into rows other n) b;
    }

    by_row : (row : Option (C × V)) (value : Option V) → IsLookedUp bits a rows row → value ≡ option_map (λ (r : C × V). r.1) row
        → IsValueLookedUp (λ p. p) a (in_bits bits rows) value
    by_row None value h e = (
      None,
      λ seen m b.
          let o = out_of rows seen m in
          h o.0 o.1 (subst (BeginsWith a) (sym (ap (λ (x : List Bool × V). x.0) o.2)) b),
      e,
    )
    by_row (Some row) value h e = (Some (as_bits row), seen_longest row h, e)

    by_seen : (seen : Option (List Bool × V)) (value : Option V) → IsLookedUp (λ p. p) a (in_bits bits rows) seen → value ≡ option_map (λ (r : List Bool × V). r.1) seen
        → IsValueLookedUp bits a rows value
    by_seen None value h e = (None, λ row m b. h (as_bits row) (into rows row m) b, e)
    by_seen (Some seen) value h e =
        let o = out_of rows seen h.here in (
          Some o.0,
          from_longest o.0 o.1 (subst (λ (x : List Bool × V). IsLongestRow (λ p. p) a (in_bits bits rows) x) (sym o.2) h),
          e ∙ ap (λ (x : List Bool × V). Some x.1) (sym o.2),
        )

    pub seen_value : (value : Option V) → IsValueLookedUp bits a rows value ↔ IsValueLookedUp (λ p. p) a (in_bits bits rows) value
    seen_value value = (λ h. by_row h.0 value h.1 h.2, λ h. by_seen h.0 value h.1 h.2)

  module _ (IsAddress : List Bool → Type 0) (rows : List (C × V)) where
    pub rows_same : (other : List (C × V)) → ForwardSame (λ p. p) IsAddress (in_bits bits rows) (in_bits bits other) → ForwardSame bits IsAddress rows other
    rows_same other h a m value =
        let these = seen_value a rows value in
        let those = seen_value a other value in
        let k = h a m value in
        (λ found. those.1 (k.0 (these.0 found)), λ found. these.1 (k.1 (those.0 found)))

    pub bits_same : (other : List (C × V)) → ForwardSame bits IsAddress rows other → ForwardSame (λ p. p) IsAddress (in_bits bits rows) (in_bits bits other)
    bits_same other h a m value =
        let these = seen_value a rows value in
        let those = seen_value a other value in
        let k = h a m value in
        (λ found. those.0 (k.0 (these.1 found)), λ found. these.0 (k.1 (those.1 found)))

module _ {C V : Type 0} (bits : C → List Bool) (IsAddress : List Bool → Type 0) (rows : List (C × V)) where
  pub holed_rows_same : (holed : List (C × Option V)) → ForwardSameHoled (λ p. p) IsAddress (in_bits bits rows) (in_bits bits holed)
      → ForwardSameHoled bits IsAddress rows holed
  holed_rows_same holed h a m value =
      let these = seen_value bits a rows value in
      let k = h a m value in (
        λ found. let f = k.0 (these.0 found) in (f.0, (seen_value bits a holed f.0).1 f.1, f.2),
        λ found. these.1 (k.1 (found.0, (seen_value bits a holed found.0).0 found.1, found.2)),
      )

-- a fact of rows and others, of rows that are the same
pub of_same : {R S : Type 0} (P : R → S → Type 0) (r r' : R) (s s' : S) → r ≡ r' → s ≡ s' → P r s → P r' s'
of_same P r r' s s' e f h = subst (λ x. P x s') e (subst (P r) f h)
