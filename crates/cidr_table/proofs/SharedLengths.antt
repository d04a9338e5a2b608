-- The search by halving for how many of the asked bits a key begins with.
use Rattle.std.proofs.Common.{◌≡◌, refl, sym, ◌∙◌, arith, ℕ, ◌+◌, ◌-◌, ◌^◌, ◌<◌, ◌≤◌, Bool, List, length, get_or, take}
use Rattle.std.proofs.lemmas.List.{get_or_default}
use Rattle.std.specs.declared.cmp.Ordering.{Ordering}
use Rattle.std.specs.declared.cmp.Ordering.TheVariants.{Less}
use Rattle.cidr.specs.model.Bits.{bit_cmp}
use Rattle.cidr_table.proofs.Beginnings.{before_longer}
use Rattle.cidr_table.proofs.Halving.{HasLeft, halved}

-- the number is at most `left` above `low`, and each comparison halved what is left
pub record Shares {C : Type 0} (old keys : List C) (key asked : List Bool) (most before now low left : ℕ) : Type 0 where
  pub same : keys ≡ old
  pub within : low + left ≤ most
  pub longer : (m : ℕ) → low + left < m → m ≤ most → bit_cmp key (take m asked) ≡ Less
  pub cost : (d : ℕ) → most < 2 ^ d → HasLeft before now left d

module _ {C : Type 0} (keys : List C) (key asked : List Bool) (most before now low left half : ℕ) (h : Shares keys keys key asked most before now low left)
    (some : 0 < left) (small : half + half ≤ left) (large : left ≤ half + half + 1) where
  pub fewer : bit_cmp key (take (low + (left - half)) asked) ≡ Less → Shares keys keys key asked most before (now + 1) low half
  fewer less = record {
    same = refl;
    within = omega (arith, h.within);
    longer = λ m l f. before_longer key asked (low + (left - half)) m less (omega arith);
    cost = λ d p. halved before now left half d (h.cost d p) some small;
  }

  pub more : Shares keys keys key asked most before (now + 1) (low + (left - half)) half
  more = record {
    same = refl;
    within = omega (arith, h.within);
    longer = λ m l f. h.longer m (omega arith) f;
    cost = λ d p. halved before now left half d (h.cost d p) some small;
  }

-- what a comparison with the first asked bits says
pub compared : {C : Type 0} (cmp : C → C → Ordering) (bits : C → List Bool)
    → ((x y : C) → cmp x y ≡ bit_cmp (bits x) (bits y))
    → (keys : List C) (asked clipped : C) (index mid : ℕ) (r : Ordering)
    → index < length keys → bits clipped ≡ take mid (bits asked) → r ≡ cmp (get_or keys index clipped) clipped → bit_cmp (bits (get_or keys index asked)) (take mid (bits asked)) ≡ r
compared cmp bits ordered keys asked clipped index mid r l cut answer =
    rw (get_or_default keys index asked clipped l, sym cut) (sym (ordered (get_or keys index clipped) clipped) ∙ sym answer)
