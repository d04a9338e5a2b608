-- The search by halving: what it knows between two comparisons.
use Rattle.std.proofs.Common.{◌≡◌, sym, arith, ℕ, ◌+◌, ◌-◌, ◌<◌, ◌≤◌, List, length, get_or, Bool, true, false}
use Rattle.std.proofs.lemmas.Bool.{true≢false, false≢true}
use Rattle.std.specs.Cmp.{IsTotalOrder}
use Rattle.std.specs.Ordering.{is_lt, is_eq}
use Rattle.std.specs.declared.cmp.Ordering.{Ordering}
use Rattle.std.specs.declared.cmp.Ordering.TheVariants.{Less, Equal, Greater}
use Rattle.std.specs.List.Sorted.{IsStrictlySortedBy}
use Rattle.cidr_table.proofs.Halving.{StandsAt, lesser_upto, greater_from}

-- the key's place among the first `end` is one of the `left` from `low` on or the next one, which is known to be equal or not
pub record IsNarrow {C : Type 0} (cmp : C → C → Ordering) (keys : List C) (key : C) (end low left : ℕ) (found : Bool) : Type 0 where
  pub lesser : (j : ℕ) → j < low → cmp (get_or keys j key) key ≡ Less
  pub next : StandsAt cmp keys key end (low + left) found

module _ {C : Type 0} (cmp : C → C → Ordering) (o : IsTotalOrder cmp) (keys : List C) (sorted : IsStrictlySortedBy cmp keys) (key : C)
    (end low left half : ℕ) (found : Bool) (fits : end ≤ length keys) (within : low + left ≤ end)
    (h : IsNarrow cmp keys key end low left found)
    (some : 0 < left) (small : half + half ≤ left) (large : left ≤ half + half + 1) where
  -- the half from a lesser key on
  right_at : (r : Ordering) → cmp (get_or keys (low + half) key) key ≡ r → true ≡ is_lt r
      → IsNarrow cmp keys key end (low + (left - half)) half found
  right_at Less e f =
      let same_end : low + (left - half) + half ≡ low + left = omega arith in
      record {
        lesser = λ j l. lesser_upto cmp o keys sorted key (low + half) (omega arith) e j (omega arith);
        next = rw same_end h.next;
      }
  right_at Equal e f = absurd (true≢false f)
  right_at Greater e f = absurd (true≢false f)

  pub right : (k : C) → get_or keys (low + half) key ≡ k → (r : Ordering) → r ≡ cmp k key → true ≡ is_lt r
      → IsNarrow cmp keys key end (low + (left - half)) half found
  right k there r e f = right_at r (rw there (sym e)) f

  stands : (r : Ordering) → cmp (get_or keys (low + half) key) key ≡ r → false ≡ is_lt r → StandsAt cmp keys key end (low + half) (is_eq r)
  stands Less e f = absurd (false≢true f)
  stands Equal e f = record { within = omega arith; equal = e }
  stands Greater e f = λ j a l. greater_from cmp o keys sorted key (low + half) (omega arith) e j a (omega arith)

  -- the half up to a key that is no lesser one
  pub left_half : (k : C) → get_or keys (low + half) key ≡ k → (r : Ordering) → r ≡ cmp k key → false ≡ is_lt r
      → IsNarrow cmp keys key end low half (is_eq r)
  left_half k there r e f = record { lesser = h.lesser; next = stands r (rw there (sym e)) f }
