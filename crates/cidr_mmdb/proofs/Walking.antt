-- One step of a walk, and its end.
use Rattle.std.proofs.Common.{◌≡◌, refl, ◌∙◌, ap, arith, ℕ, zero, suc, ◌-◌, ◌/◌, ◌%◌, ◌^◌, ◌<◌, ◌≤◌, Bool}
use Rattle.std.specs.Prelude.{◌==◌, cond}
use Rattle.std.proofs.lemmas.Bool.{lt-ltb, le-ltb}
use Rattle.cidr_mmdb.specs.Trees.{walk}

-- a node with bits left: one step
pub walk_steps : (step : ℕ → Bool → ℕ) (nodes address node left : ℕ) → 0 < left → node < nodes
    → walk step nodes address node left ≡ walk step nodes address (step node (address / 2 ^ (left - 1) % 2 == 1)) (left - 1)
unfolding walk
walk_steps step nodes address node zero some below = absurd (omega arith)
walk_steps step nodes address node (suc l) some below =
    let e : l ≡ suc l - 1 = omega arith in
    ap (λ b. cond b (walk step nodes address (step node (address / 2 ^ l % 2 == 1)) l) (node, suc l)) (lt-ltb node nodes below)
    ∙ ap (λ k. walk step nodes address (step node (address / 2 ^ k % 2 == 1)) k) e

-- a record that is no node, or no bit left: the end
pub walk_ends : (step : ℕ → Bool → ℕ) (nodes address node left : ℕ) → nodes ≤ node → walk step nodes address node left ≡ (node, left)
unfolding walk
walk_ends step nodes address node zero h = refl
walk_ends step nodes address node (suc l) h =
    ap (λ b. cond b (walk step nodes address (step node (address / 2 ^ l % 2 == 1)) l) (node, suc l)) (le-ltb node nodes h)

pub walk_read : (step : ℕ → Bool → ℕ) (nodes address node left : ℕ) → left ≡ 0 → walk step nodes address node left ≡ (node, left)
unfolding walk
walk_read step nodes address node zero h = refl
walk_read step nodes address node (suc left) h = absurd (omega arith)
