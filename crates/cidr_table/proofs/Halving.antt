-- The search by halving: what it knows between two comparisons, and that each halves the places left.
use Rattle.std.proofs.Common.{◌≡◌, refl, sym, ◌∙◌, ap, arith, inl, inr, ℕ, ◌+◌, ◌-◌, ◌^◌, ◌<◌, ◌≤◌, List, length, get_or, suc, zero, Bool, true, false, Result, Ok, Err}
use Rattle.std.proofs.Math.Nat.{pow-suc, pow-zero}
use Rattle.std.proofs.lemmas.Bool.{cases_eq, cases_lt, true≢false, false≢true}
use Rattle.std.proofs.lemmas.Map.Keys.{Less-from_sorted}
use Rattle.std.specs.Cmp.{IsTotalOrder}
use Rattle.std.specs.Ordering.{ordering_reverse, is_lt, is_eq, is_gt}
use Rattle.std.specs.declared.cmp.Ordering.{Ordering}
use Rattle.std.specs.declared.cmp.Ordering.TheVariants.{Less, Equal, Greater}
use Rattle.std.specs.List.Sorted.{IsStrictlySortedBy}
use Rattle.cidr_table.specs.internal.Places.{IsAt, IsPlace}

pub is_Less : (r : Ordering) → true ≡ is_lt r → r ≡ Less
is_Less Less h = refl
is_Less Equal h = absurd (true≢false h)
is_Less Greater h = absurd (true≢false h)

pub not_Greater : (r : Ordering) → false ≡ is_gt r → false ≡ is_eq r → r ≡ Less
not_Greater Less h e = refl
not_Greater Equal h e = absurd (false≢true e)
not_Greater Greater h e = absurd (false≢true h)

pub is_Equal : (r : Ordering) → true ≡ is_eq r → r ≡ Equal
is_Equal Less h = absurd (true≢false h)
is_Equal Equal h = refl
is_Equal Greater h = absurd (true≢false h)

pub is_Greater : (r : Ordering) → false ≡ is_lt r → false ≡ is_eq r → r ≡ Greater
is_Greater Less h e = absurd (false≢true h)
is_Greater Equal h e = absurd (false≢true e)
is_Greater Greater h e = refl

-- of d comparisons enough are left for the binary digits of the number of places left
pub record HasLeft (before now places d : ℕ) : Type 0 where
  pub digits : ℕ
  pub counted : now + digits ≤ before + d
  pub small : places < 2 ^ digits

-- whether the key stands at a place, and where it does not, all from there on are greater
abbrev pub StandsAt : {C : Type 0} (cmp : C → C → Ordering) (keys : List C) (key : C) (end index : ℕ) → Bool → Type 0
StandsAt cmp keys key end index true = IsAt cmp keys key end index
StandsAt cmp keys key end index false = (j : ℕ) → index ≤ j → j < end → cmp (get_or keys j key) key ≡ Greater

-- the key's place among the first `end` is one of the `left` from `low` on or the next one, which is known to be equal or not
pub record Leaves {C : Type 0} (cmp : C → C → Ordering) (old keys : List C) (key : C)
    (end places before now low left : ℕ) (found : Bool) : Type 0 where
  pub same : keys ≡ old
  pub within : low + left ≤ end
  pub lesser : (j : ℕ) → j < low → cmp (get_or old j key) key ≡ Less
  pub next : StandsAt cmp old key end (low + left) found
  pub cost : (d : ℕ) → places < 2 ^ d → HasLeft before now left d

-- the key's place among the first `end` is not behind `high`, and of the tries some are left
pub record GoesBack {C : Type 0} (cmp : C → C → Ordering) (old keys : List C) (key : C)
    (end before now tries high far left : ℕ) : Type 0 where
  pub same : keys ≡ old
  pub within : high ≤ end
  pub goes : 0 < far
  pub greater : (j : ℕ) → high ≤ j → j < end → cmp (get_or old j key) key ≡ Greater
  pub cost : now + left ≤ before + tries

-- the place among fewer keys is the one among all where the others come after the key
pub place_before : {C : Type 0} (cmp : C → C → Ordering) (keys : List C) (key : C) (end high : ℕ) → high ≤ end
    → ((j : ℕ) → high ≤ j → j < end → cmp (get_or keys j key) key ≡ Greater)
    → (r : Result ℕ ℕ) → IsPlace cmp keys key high r → IsPlace cmp keys key end r
place_before cmp keys key end high le greater (Ok i) h =
    record { within = omega (arith, h.within); equal = h.equal }
place_before cmp keys key end high le greater (Err i) h = record {
  within = omega (arith, h.within);
  before = h.before;
  behind = λ j f l. elim (cases_lt j high) [
    | inl lt ↦ h.behind j f lt
    | inr from ↦ greater j from l
  ];
}

halved_at : (before now s t d k : ℕ) → now + k ≤ before + d → s < 2 ^ k → 0 < s → t + t ≤ s → HasLeft before (now + 1) t d
halved_at before now s t d zero a b some l = absurd (omega (arith, pow-zero 2))
halved_at before now s t d (suc k) a b some l = record { digits = k; counted = omega arith; small = omega (arith, pow-suc 2 k) }

-- one comparison more, and at most half of the places left
pub halved : (before now s t d : ℕ) → HasLeft before now s d → 0 < s → t + t ≤ s → HasLeft before (now + 1) t d
halved before now s t d h some l = halved_at before now s t d h.digits h.counted h.small some l

module _ {C : Type 0} (cmp : C → C → Ordering) (o : IsTotalOrder cmp) (keys : List C) (sorted : IsStrictlySortedBy cmp keys) (key : C) (mid : ℕ) (within : mid < length keys) where
  -- up to a lesser key all are lesser
  pub lesser_upto : cmp (get_or keys mid key) key ≡ Less → (j : ℕ) → j < mid + 1 → cmp (get_or keys j key) key ≡ Less
  lesser_upto h j lt = elim (cases_eq j mid) [
    | inl e ↦ rw e h
    | inr n ↦ o.trans (get_or keys j key) (get_or keys mid key) key (Less-from_sorted cmp keys j mid key sorted (omega arith) within) h
  ]

  -- from a greater key on all are greater
  pub greater_from : cmp (get_or keys mid key) key ≡ Greater → (j : ℕ) → mid ≤ j → j < length keys → cmp (get_or keys j key) key ≡ Greater
  greater_from h j le lt = elim (cases_eq j mid) [
    | inl e ↦ rw e h
    | inr n ↦
        let below : cmp key (get_or keys mid key) ≡ Less = o.antisymm key (get_or keys mid key) ∙ ap ordering_reverse h in
        let next : cmp (get_or keys mid key) (get_or keys j key) ≡ Less = Less-from_sorted cmp keys mid j key sorted (omega arith) lt in
        o.antisymm (get_or keys j key) key ∙ ap ordering_reverse (o.trans key (get_or keys mid key) (get_or keys j key) below next)
  ]

  module _ (end places before now low left half : ℕ) (found : Bool) (fits : end ≤ length keys)
      (h : Leaves cmp keys keys key end places before now low left found) (here : mid ≡ low + half)
      (some : 0 < left) (small : half + half ≤ left) (large : left ≤ half + half + 1) where
    -- the half from a lesser key on
    pub leaves_right : (r : Ordering) → cmp (get_or keys mid key) key ≡ r → true ≡ is_lt r
        → Leaves cmp keys keys key end places before (now + 1) (low + (left - half)) half found
    leaves_right Less e f =
        let same_end : low + (left - half) + half ≡ low + left = omega arith in
        record {
          same = refl;
          within = omega (arith, h.within);
          lesser = λ j l. lesser_upto e j (omega arith);
          next = rw same_end h.next;
          cost = λ d p. halved before now left half d (h.cost d p) some small;
        }
    leaves_right Equal e f = absurd (true≢false f)
    leaves_right Greater e f = absurd (true≢false f)

    stands : (r : Ordering) → cmp (get_or keys mid key) key ≡ r → false ≡ is_lt r
        → StandsAt cmp keys key end mid (is_eq r)
    stands Less e f = absurd (false≢true f)
    stands Equal e f = record { within = omega (arith, h.within); equal = e }
    stands Greater e f = λ j a l. greater_from e j a (omega arith)

    -- the half up to a key that is no lesser one
    pub leaves_left : (r : Ordering) → cmp (get_or keys mid key) key ≡ r → false ≡ is_lt r
        → Leaves cmp keys keys key end places before (now + 1) low half (is_eq r)
    leaves_left r e f = record {
      same = refl;
      within = omega (arith, h.within);
      lesser = h.lesser;
      next = rw (sym here) (stands r e f);
      cost = λ d p. halved before now left half d (h.cost d p) some small;
    }
