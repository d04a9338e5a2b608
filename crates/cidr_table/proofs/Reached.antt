-- The chain of the keys that begin some bits.
use Rattle.std.proofs.Common.{◌≡◌, ◌≢◌, refl, sym, ◌∙◌, ap, arith, inl, inr, ℕ, ◌+◌, ◌-◌, ◌<◌, ◌≤◌, Bool, true, List, [], ◌∷◌, ◌++◌, length, get_or, take}
use Rattle.std.proofs.lemmas.Bool.{cases_lt, cases_eq, true≢false}
use Rattle.std.proofs.lemmas.List.{get_or_default, get_or-append_right, get_or_append_left, take-take}
use Rattle.std.proofs.lemmas.Cmp.{alike_right}
use Rattle.std.proofs.lemmas.Map.Keys.{Less-from_sorted}
use Rattle.std.specs.Cmp.{IsTotalOrder}
use Rattle.std.specs.List.{Contains}
use Rattle.std.specs.List.Sorted.{IsStrictlySortedBy}
use Rattle.std.specs.Map.{keys_of}
use Rattle.std.specs.Ordering.{ordering_reverse, is_gt}
use Rattle.std.specs.declared.cmp.Ordering.{Ordering}
use Rattle.std.specs.declared.cmp.Ordering.TheVariants.{Less, Equal, Greater}
use Rattle.cidr.specs.model.Bits.{bit_cmp}
use Rattle.cidr.specs.model.BitString.{IsSharedLength}
use Rattle.cidr.specs.model.Network.{BeginsWith}
use Rattle.cidr.specs.laws.BitLaws.{bit_cmp_total}
use Rattle.cidr_table.specs.internal.Reached.{IsReached}
use Rattle.cidr_table.specs.internal.Places.{IsAt, BelongsAt}
use Rattle.cidr_table.specs.model.Prefixes.{IsLongestRow}
use Rattle.cidr_table.proofs.Beginnings.{bits_same, begins_length, not_before, begins_between}
use Rattle.cidr_table.proofs.Insides.{key_at}

-- what is after is not before or the same
flipped : (p q : List Bool) (r : Ordering) → bit_cmp p q ≡ r → bit_cmp q p ≡ ordering_reverse r
flipped p q r h = bit_cmp_total.antisymm q p ∙ ap ordering_reverse h

pub is_above : (r : Ordering) → true ≡ is_gt r → r ≡ Greater
is_above Less h = absurd (true≢false h)
is_above Equal h = absurd (true≢false h)
is_above Greater h = refl

module _ {C : Type 0} (cmp : C → C → Ordering) (bits : C → List Bool)
    (ordered : (x y : C) → cmp x y ≡ bit_cmp (bits x) (bits y)) (keys : List C) (sorted : IsStrictlySortedBy cmp keys) where
  -- the keys up to the asked bits, among those before the bound
  pub reached_place : (any : C) (a : List Bool) (bound end : ℕ) → end ≤ bound → bound ≤ length keys
      → ((j : ℕ) → j < end → bit_cmp (bits (get_or keys j any)) a ≢ Greater)
      → ((j : ℕ) → end ≤ j → j < bound → bit_cmp (bits (get_or keys j any)) a ≡ Greater)
      → IsReached bits keys any a bound end
  reached_place any a bound end within fits upto behind = record {
    within = within;
    before = first;
    chained = λ j l b.
        let lt = first j l b in
        begins_between (bits (get_or keys j any)) a (bits (get_or keys (end - 1) any)) b (later j lt) (upto (end - 1) (omega arith));
  }
    where
      first : (j : ℕ) → j < bound → BeginsWith a (bits (get_or keys j any)) → j < end
      first j l b = elim (cases_lt j end) [
        | inl lt ↦ lt
        | inr le ↦ absurd (not_before a (bits (get_or keys j any)) b (flipped (bits (get_or keys j any)) a Greater (behind j le l)))
      ]

      later : (j : ℕ) → j < end → bit_cmp (bits (get_or keys (end - 1) any)) (bits (get_or keys j any)) ≢ Less
      later j l less = elim (cases_eq j (end - 1)) [
        | inl e ↦ let f = sym (bits_same (bits (get_or keys j any))) ∙ (rw (sym e) at less) in (cc)
        | inr n ↦
            let up : cmp (get_or keys j any) (get_or keys (end - 1) any) ≡ Less = Less-from_sorted cmp keys j (end - 1) any sorted (omega arith) (omega arith) in
            let down = flipped (bits (get_or keys j any)) (bits (get_or keys (end - 1) any)) Less (sym (ordered (get_or keys j any) (get_or keys (end - 1) any)) ∙ up) in
            let f = sym less ∙ down in (cc)
      ]

  -- at the place of the asked key, or where it would stand
  pub reached_at : (any asked : C) (end i : ℕ) → IsTotalOrder cmp → end ≤ length keys → IsAt cmp keys asked end i
      → IsReached bits keys any (bits asked) end (i + 1)
  reached_at any asked end i o fits h =
      let l = h.within in
      reached_place any (bits asked) end (i + 1) (omega arith) fits
      (λ j lt g. elim (cases_eq j i) [
        | inl e ↦
            let eq : bit_cmp (bits (get_or keys i any)) (bits asked) ≡ Equal = sym (ordered (get_or keys i any) asked) ∙ rw (get_or_default keys i asked any (omega arith)) at h.equal in
            let f = sym eq ∙ (rw e at g) in (cc)
        | inr n ↦
            let less : cmp (get_or keys j asked) (get_or keys i asked) ≡ Less = Less-from_sorted cmp keys j i asked sorted (omega arith) (omega arith) in
            let under : cmp (get_or keys j asked) asked ≡ Less = sym (alike_right o (get_or keys i asked) asked (get_or keys j asked) h.equal) ∙ less in
            let f = sym (rw (get_or_default keys j asked any (omega arith)) at under) ∙ (ordered (get_or keys j any) asked ∙ g) in (cc)
      ])
      (λ j le lt.
      let less : cmp (get_or keys i asked) (get_or keys j asked) ≡ Less = Less-from_sorted cmp keys i j asked sorted (omega arith) (omega arith) in
      let over : cmp asked (get_or keys j asked) ≡ Less = sym (o.congr (get_or keys i asked) asked (get_or keys j asked) h.equal) ∙ less in
      flipped (bits asked) (bits (get_or keys j any)) Less (sym (ordered asked (get_or keys j any)) ∙ rw (get_or_default keys j asked any (omega arith)) at over))

  pub reached_gap : (any asked : C) (end i : ℕ) → end ≤ length keys → BelongsAt cmp keys asked end i
      → IsReached bits keys any (bits asked) end i
  reached_gap any asked end i fits h =
      let l = h.within in
      reached_place any (bits asked) end i l fits
      (λ j lt g. let f = sym (h.before j lt) ∙ (ordered (get_or keys j asked) asked ∙ rw (get_or_default keys j any asked (omega arith)) at g) in (cc))
      (λ j le lt. rw (get_or_default keys j asked any (omega arith)) at (sym (ordered (get_or keys j asked) asked) ∙ h.behind j le lt))

module _ {C : Type 0} (bits : C → List Bool) (keys : List C) (any : C) (a : List Bool) where
  -- where the key before the end does not begin them, on to those of the bits that it shares
  pub reached_shorter : (bound end next n : ℕ) → 0 < end → IsReached bits keys any a bound end
      → ¬ (BeginsWith a (bits (get_or keys (end - 1) any)))
      → IsSharedLength a (bits (get_or keys (end - 1) any)) n
      → IsReached bits keys any (take n a) (end - 1) next
      → IsReached bits keys any a bound next
  reached_shorter bound end next n some h other shared link = record {
    within = omega (arith, h.within, link.within);
    before = λ j l b. link.before j (under j l b) (begins_short j l b);
    chained = λ j l b. link.chained j (under j l b) (begins_short j l b);
  }
    where
      under : (j : ℕ) → j < bound → BeginsWith a (bits (get_or keys j any)) → j < end - 1
      under j l b = elim (cases_eq j (end - 1)) [
        | inl e ↦ absurd (other (rw e at b))
        | inr n ↦ omega (arith, h.before j l b)
      ]

      begins_short : (j : ℕ) → j < bound → BeginsWith a (bits (get_or keys j any)) → BeginsWith (take n a) (bits (get_or keys j any))
      begins_short j l b = take-take (length (bits (get_or keys j any))) n a (shared.longest (bits (get_or keys j any)) b (h.chained j l b)) ∙ b

module _ {C V : Type 0} (bits : C → List Bool) (rows : List (C × V)) (a : List Bool) where
  key_of : (row : C × V) (any : C) (c : Contains rows row) → get_or (keys_of rows) c.0 any ≡ row.0
  key_of row any c = key_at rows c.0 any row c.1 ∙ ap (λ r. r.0) c.2

  -- a key that begins them, behind which there is none, is the longest
  pub longest_row : (end : ℕ) (row : C × V) → 0 < end → IsReached bits (keys_of rows) row.0 a (length rows) end
      → get_or rows (end - 1) row ≡ row → BeginsWith a (bits (get_or (keys_of rows) (end - 1) row.0)) → IsLongestRow bits a rows row
  longest_row end row some h there begins =
      let l : end - 1 < length rows = omega (arith, h.within) in
      let key : get_or (keys_of rows) (end - 1) row.0 ≡ row.0 = key_at rows (end - 1) row.0 row l ∙ ap (λ r. r.0) there in
      record {
        here = (end - 1, l, there);
        begins = rw key at begins;
        longest = λ other c b.
            let e = key_of other row.0 c in
            let chain = h.chained c.0 c.1 (rw e b) in
            begins_length (bits row.0) (bits other.0) (rw (e, key) at chain);
      }

  pub no_row : (any : C) → IsReached bits (keys_of rows) any a (length rows) 0 → (row : C × V) → Contains rows row → ¬ (BeginsWith a (bits row.0))
  no_row any h row c b = absurd (omega (arith, h.before c.0 c.1 (rw (key_of row any c) b)))
