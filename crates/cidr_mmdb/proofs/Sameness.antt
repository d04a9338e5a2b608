-- Addresses that agree in the bits that a walk reads have one walk.
use Rattle.std.proofs.Common.{◌≡◌, refl, sym, ◌∙◌, ap, arith, ℕ, zero, suc, ◌+◌, ◌-◌, ◌/◌, ◌%◌, ◌^◌, ◌<◌, ◌≤◌, Bool, true, false, List, length, take, inl, inr, lit≤}
use Rattle.std.specs.Prelude.{◌==◌, cond, nat_lt}
use Rattle.std.proofs.lemmas.Bool.{cases_lt}
use Rattle.std.proofs.lemmas.Nat.{shr-shr}
use Rattle.std.proofs.Math.Nat.{div-eq_of_lt, pow-le-pow_right}
use Rattle.cidr.specs.laws.BitLaws.{number-lt}
use Rattle.cidr.specs.model.Bits.{number}
use Rattle.cidr.specs.model.Network.{BeginsWith}
use Rattle.cidr.proofs.NetworkNumbers.{prefix-test}
use Rattle.cidr_mmdb.specs.Databases.{said_by}
use Rattle.cidr_mmdb.specs.LookUps.{looked_up}
use Rattle.cidr_mmdb.specs.Trees.{record_at, walk}
use Rattle.cidr_mmdb.specs.declared.database.Database.{Database}
use Rattle.cidr_mmdb.specs.declared.found.Found.{Found}
use Rattle.cidr_mmdb.specs.declared.found.Found.TheVariants.{Nothing}

-- what is left is no more than there was
walk_left : (step : ℕ → Bool → ℕ) (nodes address node left : ℕ) → (walk step nodes address node left).1 ≤ left
unfolding walk
walk_left step nodes address node zero = omega arith
walk_left step nodes address node (suc left) =
    cond_left (nat_lt node nodes) (walk step nodes address (step node (address / 2 ^ left % 2 == 1)) left)
    (omega (arith, walk_left step nodes address (step node (address / 2 ^ left % 2 == 1)) left))
  where
    cond_left : (b : Bool) (w : ℕ × ℕ) → w.1 ≤ suc left → (cond b w (node, suc left)).1 ≤ suc left
    cond_left true w h = h
    cond_left false w h = omega arith

-- a bit that was read is the same
same_bit : (a b left rest : ℕ) → rest ≤ left → a / 2 ^ rest ≡ b / 2 ^ rest → a / 2 ^ left ≡ b / 2 ^ left
same_bit a b left rest most e =
    let k : left ≡ rest + (left - rest) = omega arith in
    ap (λ j. a / 2 ^ j) k ∙ sym (shr-shr a rest (left - rest)) ∙ ap (λ x. x / 2 ^ (left - rest)) e ∙ shr-shr b rest (left - rest) ∙ ap (λ j. b / 2 ^ j) (sym k)

pub same_walk : (step : ℕ → Bool → ℕ) (nodes a b node left : ℕ) → a / 2 ^ (walk step nodes a node left).1 ≡ b / 2 ^ (walk step nodes a node left).1
    → walk step nodes b node left ≡ walk step nodes a node left
unfolding walk
same_walk step nodes a b node zero e = refl
same_walk step nodes a b node (suc left) e = same_step (nat_lt node nodes) (λ next same. same_walk step nodes a b next left same) e
  where
    same_step : (t : Bool) → ((next : ℕ) → a / 2 ^ (walk step nodes a next left).1 ≡ b / 2 ^ (walk step nodes a next left).1 → walk step nodes b next left ≡ walk step nodes a next left)
        → a / 2 ^ (cond t (walk step nodes a (step node (a / 2 ^ left % 2 == 1)) left) (node, suc left)).1
        ≡ b / 2 ^ (cond t (walk step nodes a (step node (a / 2 ^ left % 2 == 1)) left) (node, suc left)).1
        → cond t (walk step nodes b (step node (b / 2 ^ left % 2 == 1)) left) (node, suc left)
        ≡ cond t (walk step nodes a (step node (a / 2 ^ left % 2 == 1)) left) (node, suc left)
    same_step false same e = refl
    same_step true same e =
        let next = step node (a / 2 ^ left % 2 == 1) in
        let bit : b / 2 ^ left ≡ a / 2 ^ left = sym (same_bit a b left (walk step nodes a next left).1 (walk_left step nodes a next left) e) in
        ap (λ q. walk step nodes b (step node (q % 2 == 1)) left) bit ∙ same next e

-- numbers of w bits that agree in all but the lowest of them, where so many are left, or all
same_front : (w left : ℕ) (a b : List Bool) → length a ≡ w → length b ≡ w → BeginsWith b (take (w - left) a) → number a / 2 ^ left ≡ number b / 2 ^ left
same_front w left a b la lb begins = elim (cases_lt w left) [
  | inl above ↦
      let most : 2 ^ w ≤ 2 ^ left = pow-le-pow_right (lit≤ tt) (omega arith) in
      let small : number a < 2 ^ left = omega (arith, number-lt a, ap (λ n. 2 ^ n) la) in
      let other : number b < 2 ^ left = omega (arith, number-lt b, ap (λ n. 2 ^ n) lb) in
      div-eq_of_lt small ∙ sym (div-eq_of_lt other)
  | inr within ↦
      let k : w - (w - left) ≡ left = omega arith in
      rw (← k) (sym ((prefix-test w (w - left) b a (omega arith) lb la).1 begins))
]

-- addresses of the network that is told have the same answer
pub same_answer : (database : Database) (w : ℕ) (a b : List Bool) → length a ≡ w → length b ≡ w → BeginsWith b (take (looked_up database w (number a)).1 a)
    → looked_up database w (number b) ≡ looked_up database w (number a)
same_answer database w a b la lb begins = same_in (nat_lt database.width w) begins
  where
    step : ℕ → Bool → ℕ
    step = record_at database.tree.record_size database.tree.bytes.now

    walked : ℕ → ℕ × ℕ
    walked address = walk step database.tree.node_count address 0 database.width

    answer : Bool → ℕ × ℕ → Found × ℕ
    answer outside end = cond outside (Nothing, 0) (said_by database.tree.node_count (length database.data.now) end.0, w - end.1)

    same_in : (outside : Bool) → BeginsWith b (take (answer outside (walked (number a))).1 a) → answer outside (walked (number b)) ≡ answer outside (walked (number a))
    same_in true h = refl
    same_in false h = ap (answer false) (same_walk step database.tree.node_count (number a) (number b) 0 database.width (same_front w (walked (number a)).1 a b la lb h))
