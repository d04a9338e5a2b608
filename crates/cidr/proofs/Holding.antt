-- A network holds every address of another exactly where its bits begin the other's.
use Rattle.std.proofs.Common.{◌≡◌, ◌↔◌, ℕ, suc, ◌-◌, ◌<◌, ◌≤◌, Bool, true, false, List, ◌∷◌, ◌++◌, length, get_or, take, refl, sym, ap, ◌∙◌, subst, arith, inl, inr, length-take, length-append}
use Rattle.std.proofs.lemmas.Bool.{cases_lt, true≢false}
use Rattle.std.proofs.lemmas.List.{take-take, take_at, get_or-take, get_or_at, length-replicate}
use Rattle.std.specs.Bool.{IsTrue}
use Rattle.cidr.specs.model.Bits.{bit_eq}
use Rattle.cidr.specs.model.Network.{zeros, ones, first_of, last_of, BeginsWith, HasWidth, HoldsAll}
use Rattle.cidr.specs.laws.BitLaws.{bit_eq_Decides}
use Rattle.cidr.specs.laws.NetworkLaws.{length-take-within}

pub not_longer : (p q : List Bool) → BeginsWith q p → length p ≤ length q
not_longer p q h = omega (arith, ap length h, length-take (length p) q)

-- what begins with a list begins with the beginnings of that
pub begins-begins : (a q p : List Bool) → BeginsWith a q → BeginsWith q p → BeginsWith a p
begins-begins a q p h k =
    let within = not_longer p q k in
    sym (take-take (length p) (length q) a within) ∙ ap (take (length p)) h ∙ k

-- the bit behind a list that begins another
bit_behind : (q r p : List Bool) (b : Bool) → length q < length p → BeginsWith (q ++ b ∷ r) p → get_or p (length q) false ≡ b
bit_behind q r p b longer h =
    sym (ap (λ t. get_or t (length q) false) h) ∙ get_or-take (length p) (q ++ b ∷ r) (length q) false longer ∙ get_or_at q b r false (length q) refl

-- no list that is longer begins both the first and the last address
apart : (q p : List Bool) (m : ℕ) → length q < length p → BeginsWith (q ++ zeros (suc m)) p → ¬ (BeginsWith (q ++ ones (suc m)) p)
apart q p m longer h k =
    true≢false (sym (bit_behind q (ones m) p true longer k) ∙ bit_behind q (zeros m) p false longer h)

pub holding : (w : ℕ) (p q : List Bool) → length p ≤ w → length q ≤ w → BeginsWith q p ↔ HoldsAll (HasWidth w) p q
unfolding HoldsAll
holding w p q lp lq = (
  λ h a width begins. begins-begins a q p begins h,
  λ holds.
      let first = holds (first_of w q) (omega (arith, length-append q (zeros (w - length q)), length-replicate (w - length q) false)) (take_at q (zeros (w - length q)) (length q) refl) in
      let last = holds (last_of w q) (omega (arith, length-append q (ones (w - length q)), length-replicate (w - length q) true)) (take_at q (ones (w - length q)) (length q) refl) in
      elim (cases_lt (length q) (length p)) [
        | inl longer ↦
            let e : w - length q ≡ suc (w - length q - 1) = omega arith in
            absurd (apart q p (w - length q - 1) longer (subst (λ n. BeginsWith (q ++ zeros n) p) e first) (subst (λ n. BeginsWith (q ++ ones n) p) e last))
        | inr within ↦ sym (ap (take (length p)) (take_at q (zeros (w - length q)) (length q) refl)) ∙ take-take (length p) (length q) (first_of w q) within ∙ first
      ],
)

-- the same of the first bits of two addresses
pub begins_first : (w k n : ℕ) (a b : List Bool) → k ≤ w → length a ≡ w → k ≤ n → BeginsWith b (take k a) ↔ BeginsWith (take n b) (take k a)
begins_first w k n a b hk la within =
    let e : length (take k a) ≤ n = omega (arith, length-take k a) in (
      λ h. take-take (length (take k a)) n b e ∙ h,
      λ h. sym (take-take (length (take k a)) n b e) ∙ h,
    )

longer_begins_not : (w k n : ℕ) (a b : List Bool) → k ≤ w → length a ≡ w → n < k → ¬ (BeginsWith (take n b) (take k a))
longer_begins_not w k n a b hk la longer h = omega (arith, not_longer (take k a) (take n b) h, length-take k a, length-take n b)

pub both_ways : {A B C : Type 0} → A ↔ B → B ↔ C → A ↔ C
both_ways h k = (λ a. k.0 (h.0 a), λ c. h.1 (k.1 c))

-- what the test of two networks says, and where the length alone says no
pub holds_test : (w k n : ℕ) (a b : List Bool) → k ≤ w → length a ≡ w → n ≤ w → length b ≡ w → k ≤ n → BeginsWith b (take k a) ↔ HoldsAll (HasWidth w) (take k a) (take n b)
holds_test w k n a b hk la hn lb within =
    both_ways (begins_first w k n a b hk la within) (holding w (take k a) (take n b) (omega (arith, length-take k a)) (omega (arith, length-take n b)))

pub begins_not : (w k n : ℕ) (a b : List Bool) → k ≤ w → length a ≡ w → n < k → BeginsWith (take n b) (take k a) ↔ ⊥
begins_not w k n a b hk la longer = (λ h. longer_begins_not w k n a b hk la longer h, λ h. absurd h)

pub holds_not : (w k n : ℕ) (a b : List Bool) → k ≤ w → length a ≡ w → n ≤ w → length b ≡ w → n < k → HoldsAll (HasWidth w) (take k a) (take n b) ↔ ⊥
holds_not w k n a b hk la hn lb longer =
    let same = holding w (take k a) (take n b) (omega (arith, length-take k a)) (omega (arith, length-take n b)) in
    (λ h. longer_begins_not w k n a b hk la longer (same.1 h), λ h. absurd h)

pub ruleset holding_laws = (begins_first, begins_not, holds_test, holds_not)

-- an address begins with a network's bits where both have the same first bits
pub begins_test : (w k : ℕ) (a b : List Bool) → k ≤ w → length a ≡ w → IsTrue (bit_eq (take k a) (take k b)) ↔ BeginsWith b (take k a)
begins_test w k a b hk la =
    let l = length-take-within w k a hk la in
    let same = bit_eq_Decides (take k a) (take k b) in
    (λ t. rw l (sym (same.0 t)), λ h. same.1 (sym (rw l at h)))
