-- A walk by the number of an IPv4 address goes through the record behind the zeros before it.
use Rattle.std.proofs.Common.{◌≡◌, sym, ◌∙◌, ap, arith, ℕ, zero, suc, ◌+◌, ◌-◌, ◌/◌, ◌%◌, ◌^◌, ◌<◌, ◌≤◌, Bool, inl, inr, lit≤}
use Rattle.std.specs.Prelude.{◌==◌}
use Rattle.std.proofs.lemmas.Bool.{cases_lt}
use Rattle.std.proofs.Math.Nat.{div-eq_of_lt, pow-le-pow_right}
use Rattle.cidr_mmdb.specs.Trees.{walk}
use Rattle.cidr_mmdb.proofs.Walking.{walk_ends, walk_steps}

-- a bit before those of a number is zero
zero_bit : (a k left : ℕ) → a < 2 ^ k → k ≤ left → a / 2 ^ left ≡ 0
zero_bit a k left small below =
    let most : 2 ^ k ≤ 2 ^ left = pow-le-pow_right (lit≤ tt) below in
    div-eq_of_lt (omega arith)

-- where the walks by a and by 0 are at one record, and a has k bits
pub record Meets (k : ℕ) (whole rest : ℕ × ℕ) : Type 0 where
  pub record_is : whole.0 ≡ rest.0
  pub left_is : k - whole.1 ≡ k - rest.1

pub meets : (step : ℕ → Bool → ℕ) (nodes a k node zeros : ℕ) → a < 2 ^ k
    → Meets k (walk step nodes a node (zeros + k)) (walk step nodes a (walk step nodes 0 node zeros).0 k)
unfolding walk
meets step nodes a k node zero small =
    let none : 0 + k ≡ k = omega arith in
    record {
      record_is = ap (λ n. (walk step nodes a node n).0) none;
      left_is = ap (λ n. k - (walk step nodes a node n).1) none;
    }
meets step nodes a k node (suc z) small = elim (cases_lt node nodes) [
  | inl below ↦
      let left : suc z + k - 1 ≡ z + k = omega arith in
      let next = step node (0 == 1) in
      let here : walk step nodes a node (suc z + k) ≡ walk step nodes a next (z + k) =
      walk_steps step nodes a node (suc z + k) (omega arith) below
      ∙ ap (λ l. walk step nodes a (step node (a / 2 ^ l % 2 == 1)) l) left
      ∙ ap (λ q. walk step nodes a (step node (q % 2 == 1)) (z + k)) (zero_bit a k (z + k) small (omega arith)) in
      let none : suc z - 1 ≡ z = omega arith in
      let there : walk step nodes 0 node (suc z) ≡ walk step nodes 0 next z =
      walk_steps step nodes 0 node (suc z) (omega arith) below
      ∙ ap (λ l. walk step nodes 0 (step node (0 / 2 ^ l % 2 == 1)) l) none
      ∙ ap (λ q. walk step nodes 0 (step node (q % 2 == 1)) z) (zero_bit 0 0 z (lit≤ tt) (omega arith)) in
      let after = meets step nodes a k next z small in
      let start : (walk step nodes 0 next z).0 ≡ (walk step nodes 0 node (suc z)).0 = ap (λ (w : ℕ × ℕ). w.0) (sym there) in
      record {
        record_is = ap (λ (w : ℕ × ℕ). w.0) here ∙ after.record_is ∙ ap (λ r. (walk step nodes a r k).0) start;
        left_is = ap (λ (w : ℕ × ℕ). k - w.1) here ∙ after.left_is ∙ ap (λ r. k - (walk step nodes a r k).1) start;
      }
  | inr above ↦
      let here = walk_ends step nodes a node (suc z + k) above in
      let there = walk_ends step nodes 0 node (suc z) above in
      let rest : walk step nodes a (walk step nodes 0 node (suc z)).0 k ≡ (node, k) =
      ap (λ (w : ℕ × ℕ). walk step nodes a w.0 k) there ∙ walk_ends step nodes a node k above in
      record {
        record_is = ap (λ (w : ℕ × ℕ). w.0) here ∙ sym (ap (λ (w : ℕ × ℕ). w.0) rest);
        left_is = ap (λ (w : ℕ × ℕ). k - w.1) here ∙ omega (arith, ap (λ (w : ℕ × ℕ). k - w.1) rest);
      }
]
