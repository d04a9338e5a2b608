-- Bits and numbers, over any width.
use Rattle.std.proofs.Common.{◌≡◌, ℕ, zero, suc, ◌+◌, ◌-◌, ◌*◌, ◌/◌, ◌%◌, ◌^◌, ◌<◌, Bool, true, false, ◌&&◌, List, [], ◌∷◌, ◌++◌, length, replicate, ◌==◌, cond, refl, sym, ap, ap₂, ◌∙◌, arith, inl, inr, one-add, zero-add, length-append, eq-eqb, ne_eqb}
use Rattle.std.proofs.Math.Nat.{pow-succ', suc-add, mod-eq_of_lt, mul_assoc, add-mul-div_right, add_comm}
use Rattle.std.proofs.lemmas.Nat.{pow_pos, pow-add, shr-shr, mod-pow-add, shr_high}
use Rattle.std.proofs.lemmas.Bool.{cases_eq}
use Rattle.std.proofs.lemmas.Bool.Decides.{nat_tests}
use Rattle.std.specs.Bool.{beq, Decides, IsTrue}
use Rattle.std.specs.Cmp.{IsTotalOrder, IsEquivalence, IsPartialOrder, bool_cmp_total, bool_eq_equiv, po}
use Rattle.std.specs.Cmp.Lexicographic.{pointwise_decides, lists_total, lists_equiv, lists_ties}
use Rattle.std.specs.declared.cmp.Ordering.{Ordering}
use Rattle.std.specs.declared.cmp.Ordering.TheVariants.{Less, Equal, Greater}
use Rattle.std.specs.Ordering.{bool_cmp, nat_cmp, ordering_then, is_eq, eq_by_cmp, as_partial_cmp}
use Rattle.cidr.specs.model.Bits.{bits, number, bit_cmp, bit_eq}

pub length-bits : (w n : ℕ) → length (bits w n) ≡ w
unfolding bits
length-bits zero n = refl
length-bits (suc w) n = ap suc (length-bits w n)

pub number-lt : (p : List Bool) → number p < 2 ^ length p
unfolding number
number-lt [] = omega arith
number-lt (true ∷ p) = omega (arith, number-lt p, pow-succ' 2 (length p))
number-lt (false ∷ p) = omega (arith, number-lt p, pow-succ' 2 (length p))

-- a bit of a number as a number
bit_value : (x : ℕ) → (cond (x % 2 == 1) 1 0) ≡ x % 2
bit_value x = elim (cases_eq (x % 2) 1) [ inl e ↦ rw (eq-eqb (x % 2) 1 e) (sym e) | inr n ↦ rw (ne_eqb (x % 2) 1 n) (omega arith) ]

cond_scale : (b : Bool) (x : ℕ) → cond b x 0 ≡ cond b 1 0 * x
cond_scale true x = omega arith
cond_scale false x = omega arith

pub number-bits_mod : (w n : ℕ) → number (bits w n) ≡ n % 2 ^ w
unfolding bits number
number-bits_mod zero n = omega arith
number-bits_mod (suc w) n =
    let later = number-bits_mod w n in
    let split : n % 2 ^ suc w ≡ n / 2 ^ w % 2 * 2 ^ w + n % 2 ^ w = ap (λ k. n % 2 ^ k) (sym (one-add w)) ∙ mod-pow-add n 1 w in
    rw (length-bits w n, cond_scale (n / 2 ^ w % 2 == 1) (2 ^ w), bit_value (n / 2 ^ w), later) (sym split)

pub number-bits : (w n : ℕ) → n < 2 ^ w → number (bits w n) ≡ n
number-bits w n fits = number-bits_mod w n ∙ mod-eq_of_lt fits

-- what stands above the width does not count
pub bits_high : (w a n : ℕ) → bits w (a * 2 ^ w + n) ≡ bits w n
unfolding bits
bits_high zero a n = refl
bits_high (suc w) a n =
    let e : a * 2 ^ suc w + n ≡ (a * 2) * 2 ^ w + n = omega (arith, ap (λ t. a * t) (pow-succ' 2 w), mul_assoc a 2 (2 ^ w)) in
    let tail : bits w (a * 2 ^ suc w + n) ≡ bits w n = rw e (bits_high w (a * 2) n) in
    let q : (a * 2 ^ suc w + n) / 2 ^ w ≡ a * 2 + n / 2 ^ w = rw (e, add_comm (a * 2 * 2 ^ w) n, add-mul-div_right n (a * 2) (pow_pos w)) (omega arith) in
    let head : (a * 2 ^ suc w + n) / 2 ^ w % 2 ≡ n / 2 ^ w % 2 = rw q (omega arith) in
    ap₂ (λ x t. (x == 1) ∷ t) head tail

-- the bits of a number in two parts
pub bits-append : (j k n : ℕ) → bits (j + k) n ≡ bits j (n / 2 ^ k) ++ bits k n
unfolding bits
bits-append zero k n = ap (λ w. bits w n) (zero-add k)
bits-append (suc j) k n =
    let head : n / 2 ^ (j + k) % 2 ≡ n / 2 ^ k / 2 ^ j % 2 = rw (shr-shr n k j, add_comm k j) refl in
    rw suc-add (ap₂ (λ x t. (x == 1) ∷ t) head (bits-append j k n))

pub bits-cat : (j k x y : ℕ) → y < 2 ^ k → bits (j + k) (x * 2 ^ k + y) ≡ bits j x ++ bits k y
bits-cat j k x y h =
    bits-append j k (x * 2 ^ k + y) ∙ ap₂ (λ a b. a ++ b) (ap (bits j) (shr_high x k y h)) (bits_high k x y)

pub bits-zero : (w : ℕ) → bits w 0 ≡ replicate w false
unfolding bits
bits-zero zero = refl
bits-zero (suc w) =
    let z : 0 / 2 ^ w ≡ 0 = omega (arith, pow_pos w) in
    rw z (ap (λ t. false ∷ t) (bits-zero w))

pub bits-ones : (w : ℕ) → bits w (2 ^ w - 1) ≡ replicate w true
bits-ones zero = unfold bits in refl
bits-ones (suc w) =
    let pos = pow_pos w in
    let e : 2 ^ suc w - 1 ≡ 1 * 2 ^ w + (2 ^ w - 1) = omega (arith, pow-succ' 2 w) in
    let one : bits 1 1 ≡ true ∷ [] = unfold bits in refl in
    rw (e, ← one-add) (bits-cat 1 w 1 (2 ^ w - 1) (omega arith) ∙ ap₂ (λ a b. a ++ b) one (bits-ones w))

pub bits-number : (p : List Bool) → bits (length p) (number p) ≡ p
unfolding bits number
bits-number [] = refl
bits-number (b ∷ p) =
    let l = length p in
    let pos = pow_pos l in
    let v : ℕ = cond b 1 0 in
    let e : cond b (2 ^ l) 0 + number p ≡ v * 2 ^ l + number p = ap (λ x. x + number p) (cond_scale b (2 ^ l)) in
    let q : (cond b (2 ^ l) 0 + number p) / 2 ^ l ≡ v = ap (λ x. x / 2 ^ l) e ∙ shr_high v l (number p) (number-lt p) in
    let head : (v % 2 == 1) ≡ b = elim b as (λ b. ((cond b 1 0) % 2 == 1) ≡ b) [ true ↦ refl | false ↦ refl ] in
    let tail : bits l (cond b (2 ^ l) 0 + number p) ≡ p = ap (bits l) e ∙ bits_high l v (number p) ∙ bits-number p in
    ap₂ (λ x t. x ∷ t) (ap (λ x. (x % 2 == 1)) q ∙ head) tail

pub number-append : (p q : List Bool) → number (p ++ q) ≡ number p * 2 ^ length q + number q
unfolding number
number-append [] q = omega arith
number-append (b ∷ p) q =
    let e = pow-add 2 (length p) (length q) in
    let later = number-append p q in
    rw (length-append p q, e, later, cond_scale b (2 ^ length p * 2 ^ length q), cond_scale b (2 ^ length p)) (omega (arith, mul_assoc (cond b 1 0) (2 ^ length p) (2 ^ length q)))

-- ---- order
beq_Decides : (x y : Bool) → Decides (beq x y) (x ≡ y)
beq_Decides true true = (λ _. refl, λ _. refl)
beq_Decides false false = (λ _. refl, λ _. refl)
beq_Decides true false = (λ e. cc, λ e. cc)
beq_Decides false true = (λ e. cc, λ e. cc)

beq_ties : (x y : Bool) → beq x y ≡ eq_by_cmp bool_cmp x y
beq_ties true true = refl
beq_ties true false = refl
beq_ties false true = refl
beq_ties false false = refl

pub bit_eq_Decides : (p q : List Bool) → Decides (bit_eq p q) (p ≡ q)
bit_eq_Decides = pointwise_decides beq_Decides

pub same_bits : (p q : List Bool) → bit_eq p q ≡ true → p ≡ q
same_bits p q h = (bit_eq_Decides p q).0 h

pub bit_eq_ties : (p q : List Bool) → bit_eq p q ≡ eq_by_cmp bit_cmp p q
bit_eq_ties = lists_ties bool_cmp beq_ties

pub bit_cmp_total : IsTotalOrder bit_cmp
bit_cmp_total = lists_total bool_cmp_total

pub bit_eq_equiv : IsEquivalence bit_eq
bit_eq_equiv = lists_equiv bool_eq_equiv

pub bit_cmp_po : IsPartialOrder bit_eq (as_partial_cmp bit_cmp)
bit_cmp_po = po bit_cmp_total bit_eq_ties

-- two comparisons, one after the other, tie where both do
pub then_tie : (o : Ordering) (m n : ℕ) → is_eq (ordering_then o (nat_cmp m n)) ≡ (is_eq o && (m == n))
then_tie Less m n = refl
then_tie Equal m n = elim (cases_eq m n) [ inl e ↦ grind (arith, nat_tests) | inr h ↦ grind (arith, nat_tests) ]
then_tie Greater m n = refl

-- equal bits have equal images, as what is hashed
pub same_image : {X : Type 0} (f : List Bool → X) (p q : List Bool) → IsTrue (bit_eq p q) → f p ≡ f q
same_image f p q h = ap f ((bit_eq_Decides p q).0 h)

-- lists of one length are ordered as their numbers
shifted : (a m n : ℕ) → nat_cmp m n ≡ nat_cmp (a + m) (a + n)
shifted a m n = grind (arith, nat_tests)

less : (m n : ℕ) → m < n → Less ≡ nat_cmp m n
less m n h = grind (arith, nat_tests)

greater : (m n : ℕ) → n < m → Greater ≡ nat_cmp m n
greater m n h = grind (arith, nat_tests)

pub bit_cmp-numbers : (p q : List Bool) → length p ≡ length q → bit_cmp p q ≡ nat_cmp (number p) (number q)
unfolding number
bit_cmp-numbers [] [] e = refl
bit_cmp-numbers [] (c ∷ q) e = absurd (omega arith)
bit_cmp-numbers (b ∷ p) [] e = absurd (omega arith)
bit_cmp-numbers (true ∷ p) (true ∷ q) e =
    let l : length p ≡ length q = omega arith in
    rw (bit_cmp-numbers p q l, l) (shifted (2 ^ length q) (number p) (number q))
bit_cmp-numbers (false ∷ p) (false ∷ q) e =
    let l : length p ≡ length q = omega arith in
    rw (bit_cmp-numbers p q l) (shifted 0 (number p) (number q))
bit_cmp-numbers (true ∷ p) (false ∷ q) e =
    let l : length p ≡ length q = omega arith in
    let h : number q < 2 ^ length p + number p = rw l (omega (arith, number-lt q)) in
    greater (2 ^ length p + number p) (0 + number q) (omega arith)
bit_cmp-numbers (false ∷ p) (true ∷ q) e =
    let l : length p ≡ length q = omega arith in
    let h : number p < 2 ^ length q + number q = rw (← l) (omega (arith, number-lt p)) in
    less (0 + number p) (2 ^ length q + number q) (omega arith)

pub bit_cmp-bits : (w m n : ℕ) → m < 2 ^ w → n < 2 ^ w → bit_cmp (bits w m) (bits w n) ≡ nat_cmp m n
bit_cmp-bits w m n h k =
    bit_cmp-numbers (bits w m) (bits w n) (length-bits w m ∙ sym (length-bits w n)) ∙ ap₂ nat_cmp (number-bits w m h) (number-bits w n k)

pub bit_eq-bits : (w m n : ℕ) → m < 2 ^ w → n < 2 ^ w → bit_eq (bits w m) (bits w n) ≡ (m == n)
bit_eq-bits w m n h k =
    bit_eq_ties (bits w m) (bits w n) ∙ rw (bit_cmp-bits w m n h k) (grind (arith, nat_tests))

-- what `grind` needs at a value of a width
pub ruleset bit_laws = (length-bits, number-bits, bit_cmp-bits, bit_eq-bits)

-- what is tested the same is the same
pub ruleset same_laws = (same_bits)

-- the order of bits where only their numbers are known
pub ruleset number_order_laws = (bit_cmp-numbers)
