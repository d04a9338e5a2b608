-- The search for a place by halving: what it knows between two comparisons.
use Rattle.std.proofs.Common.{◌≡◌, ◌≢◌, ℕ, ◌+◌, ◌-◌, ◌^◌, ◌<◌, ◌≤◌, true, false, Bool, List, length, get_or, refl, arith}
use Rattle.std.specs.Ordering.{is_le}
use Rattle.std.specs.declared.cmp.Ordering.{Ordering}
use Rattle.std.specs.declared.cmp.Ordering.TheVariants.{Less, Equal, Greater}
use Rattle.std.specs.List.Sorted.{IsStrictlySortedBy}
use Rattle.cidr.specs.model.Bits.{bit_cmp}
use Rattle.cidr_table.proofs.Halving.{HasLeft, halved}
use Rattle.cidr_sets.specs.model.Searches.{IsUpto}
use Rattle.cidr_sets.proofs.Places.{upto_before, from_behind}

-- the place is one of the `left` from `low` on or the next one
pub record IsNarrowed (s : List (List Bool)) (k : List Bool) (before now low left : ℕ) : Type 0 where
  pub within : low + left ≤ length s
  pub upto : (j : ℕ) → j < low → bit_cmp (get_or s j k) k ≢ Greater
  pub behind : (j : ℕ) → low + left ≤ j → j < length s → bit_cmp (get_or s j k) k ≡ Greater
  pub cost : (d : ℕ) → length s < 2 ^ d → HasLeft before now left d

module _ (s : List (List Bool)) (k : List Bool) where
  pub narrowed_none : (before : ℕ) → IsNarrowed s k before before 0 (length s)
  narrowed_none before = record {
    within = omega arith;
    upto = λ j lt. absurd (omega (arith, lt));
    behind = λ j from lt. absurd (omega (arith, from, lt));
    cost = λ d h. record { digits = d; counted = omega arith; small = h };
  }

  pub narrowed_place : (before now low : ℕ) → IsNarrowed s k before now low 0 → IsUpto s k low
  narrowed_place before now low h = record {
    within = omega (arith, h.within);
    before = h.upto;
    behind = λ j from lt. h.behind j (omega (arith, from)) lt;
  }

  module _ (sorted : IsStrictlySortedBy bit_cmp s) (before now low left half : ℕ) (h : IsNarrowed s k before now low left) (some : 0 < left)
      (small : half + half ≤ left) (large : left ≤ half + half + 1) where
    pub narrowed_upper : bit_cmp (get_or s (low + half) k) k ≢ Greater → IsNarrowed s k before (now + 1) (low + (left - half)) half
    narrowed_upper le = record {
      within = omega (arith, h.within, small);
      upto = λ j lt. upto_before s k (low + half) sorted (omega (arith, h.within, some, small)) le j (omega (arith, lt, large));
      behind = λ j from lt. h.behind j (omega (arith, from, small)) lt;
      cost = λ d p. halved before now left half d (h.cost d p) some small;
    }

    pub narrowed_lower : bit_cmp (get_or s (low + half) k) k ≡ Greater → IsNarrowed s k before (now + 1) low half
    narrowed_lower gt = record {
      within = omega (arith, h.within, small);
      upto = h.upto;
      behind = λ j from lt. from_behind s k (low + half) sorted gt j from lt;
      cost = λ d p. halved before now left half d (h.cost d p) some small;
    }

pub is_upto : (r : Ordering) → is_le r ≡ true → r ≢ Greater
is_upto Less h e = cc
is_upto Equal h e = cc
is_upto Greater h e = cc

pub is_behind : (r : Ordering) → is_le r ≡ false → r ≡ Greater
is_behind Less h = cc
is_behind Equal h = cc
is_behind Greater h = refl
