-- Addresses on one side of an edge.
use Rattle.std.proofs.Common.{◌≢◌, ◌↔◌, ℕ, zero, suc, ◌+◌, ◌≤◌, Bool, true, false, not, List, [], ◌∷◌, ◌++◌, length, get_or, take, drop, replicate, refl, ap, arith}
use Rattle.std.proofs.lemmas.Bool.{false≢true, true≢false}
use Rattle.std.specs.declared.cmp.Ordering.TheVariants.{Greater}
use Rattle.cidr.specs.model.Bits.{bit_cmp}
use Rattle.cidr.specs.model.Network.{BeginsWith}
use Rattle.cidr_sets.specs.model.Ranges.{IsBetween, Reaches}

-- ---- the order of bits, on one side of an edge
pub reaches_up : (e a : List Bool) → length e ≤ length a → Reaches true e a ↔ (bit_cmp e a ≢ Greater)
unfolding Reaches
reaches_up [] [] l = (λ r g. cc, λ h. tt)
reaches_up [] (y ∷ a) l = (λ r g. cc, λ h. tt)
reaches_up (x ∷ e) [] l = absurd (omega (arith, l))
reaches_up (true ∷ e) (true ∷ a) l = reaches_up e a (omega (arith, l))
reaches_up (false ∷ e) (false ∷ a) l = reaches_up e a (omega (arith, l))
reaches_up (false ∷ e) (true ∷ a) l = (λ r g. cc, λ h. refl)
reaches_up (true ∷ e) (false ∷ a) l = (λ r. absurd (true≢false r), λ h. absurd (h refl))

pub reaches_down : (e a : List Bool) → length e ≤ length a → Reaches false e a ↔ (bit_cmp (take (length e) a) e ≢ Greater)
unfolding Reaches
reaches_down [] a l = (λ r g. cc, λ h. tt)
reaches_down (x ∷ e) [] l = absurd (omega (arith, l))
reaches_down (true ∷ e) (true ∷ a) l = reaches_down e a (omega (arith, l))
reaches_down (false ∷ e) (false ∷ a) l = reaches_down e a (omega (arith, l))
reaches_down (false ∷ e) (true ∷ a) l = (λ r. absurd (false≢true r), λ h. absurd (h refl))
reaches_down (true ∷ e) (false ∷ a) l = (λ r g. cc, λ h. refl)

pub between_reaches : (f l a : List Bool) → length f ≤ length a → length l ≤ length a
    → IsBetween f l a ↔ (Reaches true f a × Reaches false l a)
between_reaches f l a lf ll = (
  λ h. ((reaches_up f a lf).1 h.0, (reaches_down l a ll).1 h.1),
  λ h. ((reaches_up f a lf).0 h.0, (reaches_down l a ll).0 h.1),
)

-- ---- a network beside an edge
-- one whose bits the edge continues by bits that aren't `up`
pub filled_reaches : (up : Bool) (q a : List Bool) (k : ℕ) → BeginsWith a q → length q + k ≤ length a
    → Reaches up (q ++ replicate k (not up)) a
unfolding Reaches
filled_reaches up [] a zero b l = tt
filled_reaches up [] [] (suc k) b l = absurd (omega (arith, l))
filled_reaches true [] (true ∷ a) (suc k) b l = refl
filled_reaches true [] (false ∷ a) (suc k) b l = filled_reaches true [] a k refl (omega (arith, l))
filled_reaches false [] (true ∷ a) (suc k) b l = filled_reaches false [] a k refl (omega (arith, l))
filled_reaches false [] (false ∷ a) (suc k) b l = refl
filled_reaches up (x ∷ q) [] k b l = absurd (omega (arith, l))
filled_reaches up (true ∷ q) (true ∷ a) k b l = filled_reaches up q a k (ap (drop 1) b) (omega (arith, l))
filled_reaches up (false ∷ q) (false ∷ a) k b l = filled_reaches up q a k (ap (drop 1) b) (omega (arith, l))
filled_reaches up (true ∷ q) (false ∷ a) k b l = absurd (false≢true (ap (λ t. get_or t 0 true) b))
filled_reaches up (false ∷ q) (true ∷ a) k b l = absurd (true≢false (ap (λ t. get_or t 0 true) b))

-- what begins with the edge is on both sides of it
pub edge_reaches : (e a : List Bool) → BeginsWith a e → Reaches true e a × Reaches false e a
unfolding Reaches
edge_reaches [] a b = (tt, tt)
edge_reaches (x ∷ e) [] b = cc
edge_reaches (true ∷ e) (true ∷ a) b = edge_reaches e a (ap (drop 1) b)
edge_reaches (false ∷ e) (false ∷ a) b = edge_reaches e a (ap (drop 1) b)
edge_reaches (true ∷ e) (false ∷ a) b = absurd (false≢true (ap (λ t. get_or t 0 true) b))
edge_reaches (false ∷ e) (true ∷ a) b = absurd (true≢false (ap (λ t. get_or t 0 true) b))

-- on both sides of one edge there is only what begins with it
pub both_sides : (e a : List Bool) → Reaches true e a → Reaches false e a → BeginsWith a e
unfolding Reaches
both_sides [] a h k = refl
both_sides (x ∷ e) [] h k = absurd h
both_sides (true ∷ e) (true ∷ a) h k = ap (λ t. true ∷ t) (both_sides e a h k)
both_sides (false ∷ e) (false ∷ a) h k = ap (λ t. false ∷ t) (both_sides e a h k)
both_sides (true ∷ e) (false ∷ a) h k = absurd (true≢false h)
both_sides (false ∷ e) (true ∷ a) h k = absurd (false≢true k)
