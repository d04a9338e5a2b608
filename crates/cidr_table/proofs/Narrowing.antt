-- The longest match: each search leaves fewer rows and shorter lengths to try.
use Rattle.std.proofs.Common.{◌≡◌, ◌≢◌, refl, sym, ◌∙◌, ap, arith, inl, inr, ℕ, ◌+◌, ◌-◌, ◌*◌, ◌^◌, ◌<◌, ◌≤◌, Bool, List, [], ◌∷◌, length, get_or, take, length-take, Ok, Err}
use Rattle.std.proofs.Math.Nat.{pow-zero, add-mul, mul-le-mul_left, mul-le-mul_right}
use Rattle.std.proofs.lemmas.Bool.{cases_lt, cases_eq}
use Rattle.std.proofs.lemmas.List.{take-take, get_or_default}
use Rattle.std.proofs.lemmas.Map.Keys.{Less-from_sorted}
use Rattle.std.proofs.lemmas.Option.{slice_get-get_or}
use Rattle.std.specs.Cmp.{IsTotalOrder}
use Rattle.std.specs.List.{Contains}
use Rattle.std.specs.List.Sorted.{IsStrictlySortedBy}
use Rattle.std.specs.Ordering.{ordering_reverse}
use Rattle.std.specs.declared.cmp.Ordering.{Ordering}
use Rattle.std.specs.declared.cmp.Ordering.TheVariants.{Less, Equal, Greater}
use Rattle.cidr.specs.model.Bits.{bit_cmp}
use Rattle.cidr.specs.model.Network.{BeginsWith}
use Rattle.cidr_table.specs.internal.Places.{IsAt, BelongsAt, IsShared}
use Rattle.cidr_table.specs.model.Prefixes.{IsLongestAt}
use Rattle.cidr_table.proofs.Beginnings.{bits_exact, bits_same, begins_length, begins_first, not_before}

-- what begins the asked bits stands before `end` and has at most `len` bits, and of the comparisons that the lengths from
-- there on may take, d each, `spare` are left over
pub record Narrowed {C : Type 0} (bits : C → List Bool) (old keys : List C) (asked : C)
    (before now end len spare d : ℕ) : Type 0 where
  pub same : keys ≡ old
  pub within : end ≤ length old
  pub shorter : len ≤ length (bits asked)
  pub left : (j : ℕ) → j < length old → BeginsWith (bits asked) (bits (get_or old j asked))
      → (j < end) × (length (bits (get_or old j asked)) ≤ len)
  pub some : 0 < end → 0 < spare
  pub room : spare + len * d ≤ (length (bits asked) + 1) * d
  pub cost : now + len * d + spare ≤ before + (length (bits asked) + 1) * d

-- what each length may cost is no more with more digits
pub more_digits : (len few many before now : ℕ) → now ≤ before + len * few → few ≤ many → now ≤ before + len * many
more_digits len few many before now h more = let all : len * few ≤ len * many = mul-le-mul_left len more in omega arith

-- a search within what is left over stays within what all lengths may cost
pub one_search : (all len d before now after spare tries : ℕ) → 0 < len → tries ≤ spare → after ≤ now + tries + d
    → now + len * d + spare ≤ before + all * d → after ≤ before + all * d
one_search all len d before now after spare tries some fits cost room = let one : 1 * d ≤ len * d = mul-le-mul_right d some in omega arith

module _ {C : Type 0} (cmp : C → C → Ordering) (o : IsTotalOrder cmp) (bits : C → List Bool)
    (ordered : (x y : C) → cmp x y ≡ bit_cmp (bits x) (bits y)) (keys : List C) (sorted : IsStrictlySortedBy cmp keys) (asked : C) where
  -- before the first search
  pub narrowed_none : (now d : ℕ) → length keys < 2 ^ d
      → Narrowed bits keys keys asked now now (length keys) (length (bits asked)) d d
  narrowed_none now d small = record {
    same = refl;
    within = omega arith;
    shorter = omega arith;
    left = λ j l b. (l, begins_length (bits asked) (bits (get_or keys j asked)) b);
    some = λ l. positive d small l;
    room = rw (add-mul (length (bits asked)) 1 d) (omega arith);
    cost = rw (add-mul (length (bits asked)) 1 d) (omega arith);
  }
    where
      positive : (d : ℕ) → length keys < 2 ^ d → 0 < length keys → 0 < d
      positive d small l = elim (cases_eq d 0) [ inl e ↦ absurd (omega (arith, rw e at small, pow-zero 2)) | inr n ↦ omega arith ]

  -- the beginning of the asked bits begins with what is no longer and begins them too
  begins_clipped : (n : ℕ) (p : List Bool) → BeginsWith (bits asked) p → length p ≤ n
      → BeginsWith (take n (bits asked)) p
  begins_clipped n p b l = take-take (length p) n (bits asked) l ∙ b

  -- a key that was found is the longest
  pub found : (before now end len spare d i : ℕ) (next : C) → Narrowed bits keys keys asked before now end len spare d
      → bits next ≡ take len (bits asked) → IsAt cmp keys next end i → IsLongestAt bits (bits asked) keys i
  found before now end len spare d i next t cut h =
      let e : bits (get_or keys i next) ≡ take len (bits asked) = bits_exact (bits (get_or keys i next)) (bits next) (sym (ordered (get_or keys i next) next) ∙ h.equal) ∙ cut in
      record {
        key = get_or keys i next;
        here = slice_get-get_or keys i next (omega (arith, h.within, t.within));
        begins = rw e (begins_first len (bits asked));
        longest = λ k c b.
            let same : get_or keys c.0 asked ≡ k = get_or_default keys c.0 asked k c.1 ∙ c.2 in
            let m = t.left c.0 c.1 (rw same b) in
            rw e (omega (arith, rw same at m.1, t.shorter, length-take len (bits asked)));
      }

  -- a search that finds nothing leaves the rows before that place, and one length less
  pub not_found : (before now later end len spare d tries i : ℕ) (next : C) → 0 < len
      → Narrowed bits keys keys asked before now end len spare d → bits next ≡ take len (bits asked)
      → BelongsAt cmp keys next end i → tries < spare → later ≤ now + tries + d
      → Narrowed bits keys keys asked before later i (len - 1) (spare - tries) d
  not_found before now later end len spare d tries i next some t cut h kept cost =
      let split : len * d ≡ (len - 1) * d + d = ap (λ k. k * d) (omega arith) ∙ (add-mul (len - 1) 1 d ∙ omega arith) in
      record {
        same = refl;
        within = omega (arith, h.within, t.within);
        shorter = omega (arith, t.shorter);
        left = λ j l b. lesser j l b (t.left j l b);
        some = λ l. omega arith;
        room = omega (arith, t.room);
        cost = omega (arith, t.cost);
      }
    where
      lesser : (j : ℕ) → j < length keys → BeginsWith (bits asked) (bits (get_or keys j asked))
          → (j < end) × (length (bits (get_or keys j asked)) ≤ len)
          → (j < i) × (length (bits (get_or keys j asked)) ≤ len - 1)
      lesser j l b m =
          let d : get_or keys j next ≡ get_or keys j asked = get_or_default keys j next asked l in
          let p = bits (get_or keys j asked) in
          let inner : BeginsWith (bits next) p = rw cut (begins_clipped len p b m.1) in
          elim (cases_lt j i) [
            | inr le ↦
                let above : cmp (get_or keys j asked) next ≡ Greater = rw d at (h.behind j le m.0) in
                let under : bit_cmp (bits next) p ≡ Less = sym (ordered next (get_or keys j asked)) ∙ (o.antisymm next (get_or keys j asked) ∙ ap ordering_reverse above) in
                absurd (not_before (bits next) p inner under)
            | inl lt ↦ (
              lt,
              elim (cases_eq (length p) len) [
                | inr n ↦ omega (arith, m.1)
                | inl e ↦
                    let whole : p ≡ bits next = sym b ∙ (ap (λ k. take k (bits asked)) e ∙ sym cut) in
                    let tied : cmp (get_or keys j asked) next ≡ Equal = ordered (get_or keys j asked) next ∙ (ap (λ (x : List Bool). bit_cmp x (bits next)) whole ∙ bits_same (bits next)) in
                    let less : cmp (get_or keys j asked) next ≡ Less = rw d at (h.before j lt) in
                    let f = sym tied ∙ less in (cc)
              ],
            )
          ]

  module _ (before now later end len spare d : ℕ) (t : Narrowed bits keys keys asked before now end len spare d) (some : 0 < end) where
    -- the key before the end is the last that may begin the asked bits
    not_above : (j : ℕ) → j < end → cmp (get_or keys (end - 1) asked) (get_or keys j asked) ≢ Less
    not_above j l less = elim (cases_eq j (end - 1)) [
      | inl e ↦ let f = sym (ordered (get_or keys j asked) (get_or keys j asked) ∙ bits_same (bits (get_or keys j asked))) ∙ (rw (sym e) at less) in (cc)
      | inr n ↦
          let up : cmp (get_or keys j asked) (get_or keys (end - 1) asked) ≡ Less = Less-from_sorted cmp keys j (end - 1) asked sorted (omega arith) (omega (arith, t.within)) in
          let f = sym less ∙ (o.antisymm (get_or keys (end - 1) asked) (get_or keys j asked) ∙ ap ordering_reverse up) in (cc)
    ]

    -- if it begins them itself, it is the longest
    pub begins_itself : (n : ℕ) → IsShared (bits (get_or keys (end - 1) asked)) (bits asked) len (Ok n)
        → IsLongestAt bits (bits asked) keys (end - 1)
    begins_itself n h = record {
      key = get_or keys (end - 1) asked;
      here = slice_get-get_or keys (end - 1) asked (omega (arith, t.within));
      begins = rw h.1 (begins_first n (bits asked));
      longest = λ k c b.
          let same : get_or keys c.0 asked ≡ k = get_or_default keys c.0 asked k c.1 ∙ c.2 in
          let m = t.left c.0 c.1 (rw same b) in
          elim (cases_lt (length (bits (get_or keys (end - 1) asked))) (length (bits k))) [
            | inr le ↦ le
            | inl lt ↦
                let last = get_or keys (end - 1) asked in
                let inner : BeginsWith (bits k) (bits last) = rw (sym b) (begins_of k (bits last) (rw h.1 (begins_first n (bits asked))) (omega arith)) in
                elim (cases_eq c.0 (end - 1)) [
                  | inl e ↦ absurd (omega (arith, ap length (ap bits (sym same ∙ ap (λ i. get_or keys i asked) e))))
                  | inr other ↦
                      let up : cmp (get_or keys c.0 asked) last ≡ Less = Less-from_sorted cmp keys c.0 (end - 1) asked sorted (omega (arith, m.0)) (omega (arith, t.within)) in
                      absurd (not_before (bits k) (bits last) inner (sym (ordered k last) ∙ (rw same at up)))
                ]
          ];
    }
      where
        begins_of : (k : C) (p : List Bool) → BeginsWith (bits asked) p → length p ≤ length (bits k)
            → BeginsWith (take (length (bits k)) (bits asked)) p
        begins_of k p b l = begins_clipped (length (bits k)) p b l

    -- otherwise the lengths above the shared one are ruled out, which leaves their comparisons over
    pub shared_only : (cost n : ℕ) → IsShared (bits (get_or keys (end - 1) asked)) (bits asked) len (Err n)
        → cost < spare → later ≤ now + cost
        → Narrowed bits keys keys asked before later end n (spare - cost + (len - n) * d) d
    shared_only cost n h paid most =
        let split : len * d ≡ (len - n) * d + n * d = ap (λ k. k * d) (omega (arith, h.0)) ∙ add-mul (len - n) n d in
        record {
          same = refl;
          within = t.within;
          shorter = omega (arith, h.0, t.shorter);
          left = λ j l b.
              let m = t.left j l b in (
                m.0,
                elim (cases_lt n (length (bits (get_or keys j asked)))) [
                  | inr le ↦ le
                  | inl lt ↦
                      let under : bit_cmp (bits (get_or keys (end - 1) asked)) (bits (get_or keys j asked)) ≡ Less = rw b at (h.1 (length (bits (get_or keys j asked))) lt m.1) in
                      absurd (not_above j m.0 (ordered (get_or keys (end - 1) asked) (get_or keys j asked) ∙ under))
                ],
              );
          some = λ l. omega arith;
          room = omega (arith, t.room);
          cost = omega (arith, t.cost);
        }

  -- the key of no bits is found in the first place or in none
  pub none_left : (before now end spare d : ℕ) (next : C) → Narrowed bits keys keys asked before now end 0 spare d
      → bits next ≡ [] → cmp (get_or keys 0 next) next ≢ Equal → (k : C) → Contains keys k
      → ¬ (BeginsWith (bits asked) (bits k))
  none_left before now end spare d next t cut other k c b =
      let same : get_or keys c.0 asked ≡ k = get_or_default keys c.0 asked k c.1 ∙ c.2 in
      let m = t.left c.0 c.1 (rw same b) in
      let short : length (bits k) ≤ 0 = rw same at m.1 in
      let bare : bits k ≡ [] = no_bits (bits k) short in
      elim (cases_eq c.0 0) [
        | inl first ↦
            let at_first : get_or keys 0 next ≡ k = ap (λ i. get_or keys i next) (sym first) ∙ (get_or_default keys c.0 next k c.1 ∙ c.2) in
            other (rw at_first (ordered k next ∙ (rw (bare, cut) refl)))
        | inr later ↦
            let up : cmp (get_or keys 0 asked) (get_or keys c.0 asked) ≡ Less = Less-from_sorted cmp keys 0 c.0 asked sorted (omega arith) c.1 in
            not_before (bits (get_or keys 0 asked)) [] refl (rw (same, ordered (get_or keys 0 asked) k, bare) at up)
      ]
    where
      no_bits : (p : List Bool) → length p ≤ 0 → p ≡ []
      no_bits [] l = refl
      no_bits (x ∷ p) l = absurd (omega arith)

  -- with no rows left there is none
  pub no_rows_left : (before now len spare d : ℕ) → Narrowed bits keys keys asked before now 0 len spare d → (k : C)
      → Contains keys k → ¬ (BeginsWith (bits asked) (bits k))
  no_rows_left before now len spare d t k c b =
      let same : get_or keys c.0 asked ≡ k = get_or_default keys c.0 asked k c.1 ∙ c.2 in
      let m = t.left c.0 c.1 (rw same b) in
      absurd (omega (arith, m.0))
