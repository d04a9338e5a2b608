-- The order of bits, and the lists that begin with others.
use Rattle.std.proofs.Common.{◌≡◌, ◌≢◌, refl, sym, ◌∙◌, ap, arith, inl, inr, ℕ, zero, suc, ◌≤◌, Bool, true, false, List, [], ◌∷◌, length, get_or, take, drop, ◌==◌, length-take, eq-eqb, ne_eqb}
use Rattle.std.proofs.lemmas.Bool.{cases_eq, true≢false, false≢true}
use Rattle.std.proofs.lemmas.List.{take_all}
use Rattle.std.specs.Bool.{beq, Decides}
use Rattle.std.specs.Cmp.Lexicographic.{pointwise_decides}
use Rattle.std.specs.FinMap.{slice_cmp-IsAntisymmetric}
use Rattle.std.specs.Ordering.{bool_cmp}
use Rattle.std.specs.declared.cmp.Ordering.{Ordering}
use Rattle.std.specs.declared.cmp.Ordering.TheVariants.{Less, Equal, Greater}
use Rattle.cidr.specs.model.Bits.{bit_cmp}
use Rattle.cidr.specs.model.BitString.{IsSharedLength}
use Rattle.cidr.specs.model.Network.{BeginsWith}
use Rattle.cidr_table.specs.internal.Places.{begins_with}

-- only the same bits are equal in their order
bool_exact : (x y : Bool) → bool_cmp x y ≡ Equal → x ≡ y
bool_exact false false e = refl
bool_exact true true e = refl
bool_exact false true e = cc
bool_exact true false e = cc

pub bits_exact : (p q : List Bool) → bit_cmp p q ≡ Equal → p ≡ q
bits_exact p q e = slice_cmp-IsAntisymmetric bool_exact p q e

pub bits_same : (p : List Bool) → bit_cmp p p ≡ Equal
bits_same [] = refl
bits_same (false ∷ p) = bits_same p
bits_same (true ∷ p) = bits_same p

-- networks that are equal in their order are the same
pub cmp_exact : {C : Type 0} (cmp : C → C → Ordering) (bits : C → List Bool)
    → ((x y : C) → cmp x y ≡ bit_cmp (bits x) (bits y)) → ((x y : C) → bits x ≡ bits y → x ≡ y)
    → (x y : C) → cmp x y ≡ Equal → x ≡ y
cmp_exact cmp bits ordered determined x y e = determined x y (bits_exact (bits x) (bits y) (sym (ordered x y) ∙ e))

-- the bits that begin a list are no more than it has
pub begins_length : (a p : List Bool) → BeginsWith a p → length p ≤ length a
begins_length a p b = omega (arith, ap length b, length-take (length p) a)

-- the first bits of a list begin it
pub begins_first : (n : ℕ) (a : List Bool) → BeginsWith a (take n a)
begins_first zero a = refl
begins_first (suc n) [] = refl
begins_first (suc n) (x ∷ a) = ap (λ t. x ∷ t) (begins_first n a)

-- what comes before a beginning comes before the longer ones
pub before_longer : (r a : List Bool) (k m : ℕ) → bit_cmp r (take k a) ≡ Less → k ≤ m → bit_cmp r (take m a) ≡ Less
before_longer [] a zero m less l = cc
before_longer (x ∷ r) a zero m less l = cc
before_longer r a (suc k) zero less l = absurd (omega arith)
before_longer [] [] (suc k) (suc m) less l = cc
before_longer (x ∷ r) [] (suc k) (suc m) less l = cc
before_longer [] (y ∷ a) (suc k) (suc m) less l = refl
before_longer (true ∷ r) (true ∷ a) (suc k) (suc m) less l = before_longer r a k m less (omega arith)
before_longer (false ∷ r) (false ∷ a) (suc k) (suc m) less l = before_longer r a k m less (omega arith)
before_longer (false ∷ r) (true ∷ a) (suc k) (suc m) less l = refl
before_longer (true ∷ r) (false ∷ a) (suc k) (suc m) less l = cc

-- what begins with a network is not before it
pub not_before : (a p : List Bool) → BeginsWith a p → bit_cmp a p ≢ Less
not_before a [] h l = not_less a l
  where
    not_less : (a : List Bool) → bit_cmp a [] ≢ Less
    not_less [] l = cc
    not_less (x ∷ a) l = cc
not_before [] (b ∷ p) h l = omega (arith, begins_length [] (b ∷ p) h)
not_before (true ∷ a) (true ∷ p) h l = not_before a p (ap (drop 1) h) l
not_before (false ∷ a) (false ∷ p) h l = not_before a p (ap (drop 1) h) l
not_before (true ∷ a) (false ∷ p) h l = true≢false (ap (λ t. get_or t 0 false) h)
not_before (false ∷ a) (true ∷ p) h l = false≢true (ap (λ t. get_or t 0 true) h)

-- between a network and what begins with it, all begin with it
pub begins_between : (p q r : List Bool) → BeginsWith q p → bit_cmp r p ≢ Less → bit_cmp r q ≢ Greater → BeginsWith r p
begins_between [] q r h low high = refl
begins_between (b ∷ p) [] r h low high = absurd (omega (arith, begins_length [] (b ∷ p) h))
begins_between (b ∷ p) (c ∷ q) [] h low high = absurd (low refl)
begins_between (true ∷ p) (true ∷ q) (true ∷ r) h low high = ap (λ t. true ∷ t) (begins_between p q r (ap (drop 1) h) low high)
begins_between (true ∷ p) (true ∷ q) (false ∷ r) h low high = absurd (low refl)
begins_between (false ∷ p) (false ∷ q) (false ∷ r) h low high = ap (λ t. false ∷ t) (begins_between p q r (ap (drop 1) h) low high)
begins_between (false ∷ p) (false ∷ q) (true ∷ r) h low high = absurd (high refl)
begins_between (true ∷ p) (false ∷ q) r h low high = absurd (false≢true (ap (λ t. get_or t 0 true) h))
begins_between (false ∷ p) (true ∷ q) r h low high = absurd (true≢false (ap (λ t. get_or t 0 true) h))

bools_decide : (x y : Bool) → Decides (beq x y) (x ≡ y)
bools_decide true true = (λ _. refl, λ _. refl)
bools_decide false false = (λ _. refl, λ _. refl)
bools_decide true false = (λ e. absurd (false≢true e), λ e. absurd (true≢false e))
bools_decide false true = (λ e. absurd (false≢true e), λ e. absurd (false≢true e))

pub begins_decides : (a p : List Bool) → Decides (begins_with a p) (BeginsWith a p)
begins_decides a p = pointwise_decides bools_decide (take (length p) a) p

not_true : (b : Bool) → b ≢ true → b ≡ false
not_true true n = absurd (n refl)
not_true false n = refl

-- what decides it is the same
pub begins_from_decides : (r : Bool) (a p : List Bool) → Decides r (BeginsWith a p) → r ≡ begins_with a p
begins_from_decides true a p h = sym ((begins_decides a p).1 (h.0 refl))
begins_from_decides false a p h = sym (not_true (begins_with a p) (λ t. false≢true (h.1 ((begins_decides a p).0 t))))

-- the shared length tells whether one begins with the other
pub begins_from_shared : (a p : List Bool) (n : ℕ) → IsSharedLength a p n → (n == length p) ≡ begins_with a p
begins_from_shared a p n h =
    let s = h.shared.0 in
    let len : length s ≡ n = h.shared.1 in
    let most = begins_length p s h.shared.3 in
    elim (cases_eq n (length p)) [
      | inl e ↦
          let same : s ≡ p = sym h.shared.3 ∙ take_all (length s) p (omega arith) in
          eq-eqb n (length p) e ∙ sym ((begins_decides a p).1 (rw (sym same) h.shared.2))
      | inr other ↦
          ne_eqb n (length p) other ∙ sym (not_true (begins_with a p) (λ t. other (omega (arith, h.longest p ((begins_decides a p).0 t) (take_all (length p) p (omega arith))))))
    ]
