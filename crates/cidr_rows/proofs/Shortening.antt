-- The longest match: each search leaves fewer keys, and fewer bits to begin.
use Rattle.std.proofs.Common.{◌≡◌, sym, ◌∙◌, ap, subst, arith, inl, inr, ℕ, ◌-◌, ◌<◌, ◌≤◌, Bool, List, length, get_or, take}
use Rattle.std.proofs.lemmas.Bool.{cases_eq, cases_lt}
use Rattle.std.proofs.lemmas.List.{take-take, get_or_default}
use Rattle.std.proofs.lemmas.Option.{slice_get-get_or}
use Rattle.std.specs.List.{Contains}
use Rattle.std.specs.List.Sorted.{IsStrictlySortedBy}
use Rattle.std.specs.declared.cmp.Ordering.{Ordering}
use Rattle.cidr.specs.model.Bits.{bit_cmp}
use Rattle.cidr.specs.model.BitString.{IsSharedLength}
use Rattle.cidr.specs.model.Network.{BeginsWith}
use Rattle.cidr_table.specs.internal.Reached.{IsReached}
use Rattle.cidr_table.specs.internal.Places.{IsAt, BelongsAt}
use Rattle.cidr_table.specs.model.Prefixes.{IsLongestAt}
use Rattle.cidr_table.proofs.Beginnings.{bits_exact, begins_length}
use Rattle.cidr_table.proofs.Halves.{begins_itself, begins_begins}
use Rattle.cidr_table.proofs.Reached.{reached_gap}
use Rattle.cidr_rows.specs.Lengths.{AreLengths, MayHave}

-- a list that is shared whole
pub whole : (a p : List Bool) (n : ℕ) → n ≡ length p → IsSharedLength a p n → BeginsWith a p
whole a p n e h =
    let s = h.shared.0 in
    let same : s ≡ p = sym h.shared.3 ∙ (ap (λ k. take k p) (h.shared.1 ∙ e) ∙ begins_itself p) in
    subst (λ x. BeginsWith a x) same h.shared.2

pub not_whole : (a p : List Bool) (n : ℕ) → ¬ (n ≡ length p) → IsSharedLength a p n → ¬ (BeginsWith a p)
not_whole a p n other h b = other (omega (arith, h.longest p b (begins_itself p), h.shared.1, begins_length p h.shared.0 h.shared.3))

module _ {C : Type 0} (cmp : C → C → Ordering) (bits : C → List Bool) (ordered : (x y : C) → cmp x y ≡ bit_cmp (bits x) (bits y))
    (keys : List C) (sorted : IsStrictlySortedBy cmp keys) (asked sought : C) (end : ℕ) (fits : end ≤ length keys)
    (begins : BeginsWith (bits asked) (bits sought))
    (left : (j : ℕ) → j < length keys → BeginsWith (bits asked) (bits (get_or keys j asked))
    → (j < end) × BeginsWith (bits sought) (bits (get_or keys j asked))) where
  -- a key that contains the asked bits, by its index
  among : (k : C) → (c : Contains keys k) → BeginsWith (bits asked) (bits k) → (c.0 < end) × BeginsWith (bits sought) (bits (get_or keys c.0 asked))
  among k c b = left c.0 c.1 (rw (get_or_default keys c.0 asked k c.1 ∙ c.2) b)

  -- the bits that are left are a key
  pub at_place : (i : ℕ) → IsAt cmp keys sought end i → IsLongestAt bits (bits asked) keys i
  at_place i h =
      let e : bits (get_or keys i sought) ≡ bits sought = bits_exact (bits (get_or keys i sought)) (bits sought) (sym (ordered (get_or keys i sought) sought) ∙ h.equal) in
      record {
        key = get_or keys i sought;
        here = slice_get-get_or keys i sought (omega (arith, h.within, fits));
        begins = rw e begins;
        longest = λ k c b.
            let same : get_or keys c.0 asked ≡ k = get_or_default keys c.0 asked k c.1 ∙ c.2 in
            rw e (begins_length (bits sought) (bits k) (rw same at (among k c b).1));
      }

  reached : (i : ℕ) → BelongsAt cmp keys sought end i → IsReached bits keys asked (bits sought) end i
  reached i h = reached_gap cmp bits ordered keys sorted asked sought end i fits h

  -- they are before all keys that are left
  pub no_place : (i : ℕ) → i ≡ 0 → BelongsAt cmp keys sought end i → (k : C) → Contains keys k → ¬ (BeginsWith (bits asked) (bits k))
  no_place i e h k c b =
      let m = among k c b in
      absurd (omega (arith, (reached i h).before c.0 m.0 m.1))

  -- no key is left
  pub none_left : end ≡ 0 → (k : C) → Contains keys k → ¬ (BeginsWith (bits asked) (bits k))
  none_left e k c b = absurd (omega (arith, (among k c b).0))

  -- the key before their place begins them
  pub before_place : (i : ℕ) → 0 < i → BelongsAt cmp keys sought end i → BeginsWith (bits sought) (bits (get_or keys (i - 1) asked))
      → IsLongestAt bits (bits asked) keys (i - 1)
  before_place i some h there = record {
    key = get_or keys (i - 1) asked;
    here = slice_get-get_or keys (i - 1) asked (omega (arith, h.within, fits));
    begins = begins_begins (bits asked) (bits sought) (bits (get_or keys (i - 1) asked)) begins there;
    longest = λ k c b.
        let same : get_or keys c.0 asked ≡ k = get_or_default keys c.0 asked k c.1 ∙ c.2 in
        let m = among k c b in
        let there = (reached i h).chained c.0 m.0 m.1 in
        begins_length (bits (get_or keys (i - 1) asked)) (bits k) (rw same at there);
  }

  -- it does not: then what contains them is before it, and is no longer than what both share
  before_shared : (i n : ℕ) → 0 < i → BelongsAt cmp keys sought end i → ¬ (BeginsWith (bits sought) (bits (get_or keys (i - 1) asked)))
      → IsSharedLength (bits sought) (bits (get_or keys (i - 1) asked)) n
      → (j : ℕ) → j < length keys → BeginsWith (bits asked) (bits (get_or keys j asked))
      → (j < i - 1) × (length (bits (get_or keys j asked)) ≤ n) × BeginsWith (bits sought) (bits (get_or keys j asked))
  before_shared i n some h other shared j l b =
      let m = left j l b in
      let r = reached i h in (
        elim (cases_eq j (i - 1)) [
          | inl e ↦ absurd (other (rw e at m.1))
          | inr ne ↦ omega (arith, r.before j m.0 m.1)
        ],
        shared.longest (bits (get_or keys j asked)) m.1 (r.chained j m.0 m.1),
        m.1,
      )

  module _ (lengths : List ℕ) (known : AreLengths bits keys lengths) where
    may_have : (j : ℕ) → j < length keys → MayHave lengths (length (bits (get_or keys j asked)))
    may_have j l = known (get_or keys j asked) (j, l, get_or_default keys j (get_or keys j asked) asked l)

    -- of the lengths up to that keys may have one at most
    pub shorter : (i n len : ℕ) → 0 < i → BelongsAt cmp keys sought end i → ¬ (BeginsWith (bits sought) (bits (get_or keys (i - 1) asked)))
        → IsSharedLength (bits sought) (bits (get_or keys (i - 1) asked)) n
        → ((m : ℕ) → len < m → m ≤ n → ¬ (MayHave lengths m))
        → (j : ℕ) → j < length keys → BeginsWith (bits asked) (bits (get_or keys j asked))
        → (j < i - 1) × BeginsWith (take len (bits sought)) (bits (get_or keys j asked))
    shorter i n len some h other shared none j l b =
        let m = before_shared i n some h other shared j l b in
        let p = bits (get_or keys j asked) in
        let fits : length p ≤ len = elim (cases_lt len (length p)) [
          | inl lt ↦ absurd (none (length p) lt m.1 (may_have j l))
          | inr le ↦ le
        ] in
        (m.0, take-take (length p) len (bits sought) fits ∙ m.2)

    -- or none
    pub no_shorter : (i n : ℕ) → 0 < i → BelongsAt cmp keys sought end i → ¬ (BeginsWith (bits sought) (bits (get_or keys (i - 1) asked)))
        → IsSharedLength (bits sought) (bits (get_or keys (i - 1) asked)) n
        → ((m : ℕ) → m ≤ n → ¬ (MayHave lengths m)) → (k : C) → Contains keys k → ¬ (BeginsWith (bits asked) (bits k))
    no_shorter i n some h other shared none k c b =
        let same : get_or keys c.0 asked ≡ k = get_or_default keys c.0 asked k c.1 ∙ c.2 in
        let m = before_shared i n some h other shared c.0 c.1 (rw same b) in
        none (length (bits (get_or keys c.0 asked))) m.1 (may_have c.0 c.1)
