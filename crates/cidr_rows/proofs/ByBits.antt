-- The order of keys is that of their bits.
use Rattle.std.proofs.Common.{◌≡◌, sym, ◌∙◌, arith, ℕ, ◌<◌, ◌≤◌, Bool, List, [], ◌∷◌, length, get_or, map, Result, Ok, Err}
use Rattle.std.proofs.lemmas.List.{get_or-map}
use Rattle.std.specs.List.{AllByRecursion}
use Rattle.std.specs.List.Sorted.{IsStrictlySortedBy}
use Rattle.std.specs.declared.cmp.Ordering.{Ordering}
use Rattle.std.specs.declared.cmp.Ordering.TheVariants.{Less, Equal, Greater}
use Rattle.cidr.specs.model.Bits.{bit_cmp}
use Rattle.cidr_table.specs.internal.Places.{IsPlace}

module _ {C : Type 0} (cmp : C → C → Ordering) (bits : C → List Bool) (ordered : (x y : C) → cmp x y ≡ bit_cmp (bits x) (bits y)) where
  all_below : (x : C) (keys : List C) → AllByRecursion (λ q. bit_cmp (bits x) q ≡ Less) (map bits keys) → AllByRecursion (λ y. cmp x y ≡ Less) keys
  all_below x [] a = tt
  all_below x (y ∷ keys) a = (ordered x y ∙ a.0, all_below x keys a.1)

  pub sorted_keys : (keys : List C) → IsStrictlySortedBy bit_cmp (map bits keys) → IsStrictlySortedBy cmp keys
  unfolding IsStrictlySortedBy
  sorted_keys [] s = tt
  sorted_keys (x ∷ keys) s = (all_below x keys s.0, sorted_keys keys s.1)

  module _ (keys : List C) (key : C) (end : ℕ) (fits : end ≤ length keys) where
    compared : (j : ℕ) (r : Ordering) → j < end → cmp (get_or keys j key) key ≡ r → bit_cmp (get_or (map bits keys) j (bits key)) (bits key) ≡ r
    compared j r l h = rw (get_or-map bits keys j key (bits key) (omega arith)) (sym (ordered (get_or keys j key) key) ∙ h)

    -- a place among keys is one among their bits
    pub place_by_bits : (r : Result ℕ ℕ) → IsPlace cmp keys key end r → IsPlace bit_cmp (map bits keys) (bits key) end r
    place_by_bits (Ok i) h = record { within = h.within; equal = compared i Equal h.within h.equal }
    place_by_bits (Err i) h = record {
      within = h.within;
      before = λ j l. compared j Less (omega (arith, h.within)) (h.before j l);
      behind = λ j f l. compared j Greater l (h.behind j f l);
    }
