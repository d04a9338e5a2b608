-- What the length of the longest common beginning of two networks tells of whether they are the halves of one.
use Rattle.std.proofs.Common.{◌≡◌, ℕ, ◌+◌, ◌≤◌, Bool, true, false, List, [], ◌∷◌, ◌++◌, length, get_or, sym, ap, ◌∙◌, subst, arith, inl, inr}
use Rattle.std.proofs.lemmas.Bool.{cases_lt}
use Rattle.std.specs.declared.cmp.Ordering.TheVariants.{Less}
use Rattle.cidr.specs.model.Bits.{bit_cmp}
use Rattle.cidr.specs.model.BitString.{IsSharedLength}
use Rattle.cidr.specs.model.Network.{BeginsWith}
use Rattle.cidr_table.specs.internal.CoverStack.{AreHalvesInOrder}
use Rattle.cidr_table.proofs.Halves.{same_length, next_bit, length_half, half_begins}
use Rattle.cidr_table.proofs.Beginnings.{begins_length}
use Rattle.cidr_table.proofs.Order.{less_not_itself, lower_less, last_bits}

pub shared_within : (n : ℕ) (p q : List Bool) → IsSharedLength p q n → n ≤ length p
shared_within n p q is = let (s, long, one, other) = is.shared in omega (arith, long, begins_length p s one)

-- of two lists of one length in order, it is one less exactly if they are the halves of one network
last_bit : (p s : List Bool) → BeginsWith p s → length p ≡ length s + 1 → p ≡ s ++ get_or p (length s) false ∷ []
last_bit p s h e =
    let b = get_or p (length s) false in
    same_length p (s ++ b ∷ []) (next_bit p s h (omega arith)) (omega (arith, length_half s b))

pub halves_from_shared : (n : ℕ) (p q : List Bool) → IsSharedLength p q n → bit_cmp p q ≡ Less → length p ≡ length q
    → n + 1 ≡ length p → AreHalvesInOrder p q
halves_from_shared n p q is less e h =
    let (s, long, one, other) = is.shared in
    let b = get_or p (length s) false in
    let c = get_or q (length s) false in
    let low = last_bit p s one (omega (arith, long)) in
    let high = last_bit q s other (omega (arith, long)) in
    let bits = last_bits s b c (subst (λ x. bit_cmp x (s ++ c ∷ []) ≡ Less) low
    (subst (λ x. bit_cmp p x ≡ Less) high less)) in
    (s, low ∙ ap (λ x. s ++ x ∷ []) bits.0, high ∙ ap (λ x. s ++ x ∷ []) bits.1)

pub shared_from_halves : (n : ℕ) (p q : List Bool) → IsSharedLength p q n → AreHalvesInOrder p q → n + 1 ≡ length p
shared_from_halves n p q is (s, low, high) =
    let one : BeginsWith p s = subst (λ x. BeginsWith x s) (sym low) (half_begins s false) in
    let other : BeginsWith q s = subst (λ x. BeginsWith x s) (sym high) (half_begins s true) in
    let lower : length p ≡ length s + 1 = ap length low ∙ length_half s false in
    let upper : length q ≡ length s + 1 = ap length high ∙ length_half s true in
    elim (cases_lt n (length p)) [
      | inl shorter ↦ omega (arith, is.longest s one other)
      | inr all ↦
          let (t, long, first, second) = is.shared in
          let same = sym low ∙ same_length p t first (omega (arith, long))
          ∙ sym (same_length q t second (omega (arith, long))) ∙ high in
          absurd (less_not_itself (s ++ false ∷ [])
          (subst (λ x. bit_cmp (s ++ false ∷ []) x ≡ Less) (sym same) (lower_less s)))
    ]
