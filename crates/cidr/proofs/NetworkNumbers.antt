-- Networks by the numbers of their addresses, over any width.
use Rattle.std.proofs.Common.{◌≡◌, ℕ, ◌+◌, ◌-◌, ◌*◌, ◌/◌, ◌%◌, ◌^◌, ◌<◌, ◌≤◌, Bool, false, List, ◌++◌, length, take, drop, ◌==◌, refl, sym, ap, ap₂, ◌∙◌, arith, inl, inr, length-drop, take-append-drop, length-take-le, eq-eqb, ne_eqb, ◌↔◌}
use Rattle.std.proofs.lemmas.Nat.{pow_pos, pow-add, shr_high, mod_low, row_fits}
use Rattle.std.proofs.lemmas.List.{length-replicate, take_all, drop_all}
use Rattle.std.proofs.lemmas.Bool.{cases_eq, false_from_ne_true}
use Rattle.cidr.specs.model.Bits.{bits, number, bit_eq}
use Rattle.cidr.specs.laws.BitLaws.{number-bits, number-lt, bits-number, bits-cat, bits-zero, bits-ones, number-append, bit_eq_Decides}
use Rattle.cidr.specs.model.Network.{zeros, ones, last_of, mask_of, BeginsWith}
use Rattle.cidr.specs.laws.NetworkLaws.{length-take-within, first_of-take}

-- the number of the first k bits, and of those from k on
pub number-parts : (w k : ℕ) (a : List Bool) → k ≤ w → length a ≡ w → (number (take k a) ≡ number a / 2 ^ (w - k)) × (number (drop k a) ≡ number a % 2 ^ (w - k))
number-parts w k a h e =
    let d : length (drop k a) ≡ w - k = omega (arith, length-drop k a) in
    let sized = ap (λ m. number (take k a) * 2 ^ m + number (drop k a)) d in
    let whole : number a ≡ number (take k a) * 2 ^ (w - k) + number (drop k a) =
    sym (ap number (take-append-drop k a)) ∙ number-append (take k a) (drop k a) ∙ sized in
    let low : number (drop k a) < 2 ^ (w - k) = rw (← d) (number-lt (drop k a)) in
    rw whole (sym (shr_high (number (take k a)) (w - k) (number (drop k a)) low), sym (mod_low (number (take k a)) (w - k) (number (drop k a)) low))

-- a list of a width is the bits of its number
pub same_from_number : (w n : ℕ) (a : List Bool) → length a ≡ w → n ≡ number a → bits w n ≡ a
same_from_number w n a e h = rw (h, ← e) (bits-number a)

pub same_from_numbers : (a b : List Bool) → length a ≡ length b → number a ≡ number b → a ≡ b
same_from_numbers a b e h = sym (bits-number a) ∙ ap₂ bits e h ∙ bits-number b

pub number-zeros : (n : ℕ) → number (zeros n) ≡ 0
number-zeros n = ap number (sym (bits-zero n)) ∙ number-bits n 0 (pow_pos n)

pub number-ones : (n : ℕ) → number (ones n) ≡ 2 ^ n - 1
number-ones n = ap number (sym (bits-ones n)) ∙ number-bits n (2 ^ n - 1) (omega (arith, pow_pos n))

-- the bits from k on are zero where the number is a multiple
pub zeros_from_rem : (w k : ℕ) (a : List Bool) → k ≤ w → length a ≡ w → number a % 2 ^ (w - k) ≡ 0 → drop k a ≡ zeros (w - k)
zeros_from_rem w k a h e z =
    same_from_numbers (drop k a) (zeros (w - k)) (omega (arith, length-drop k a, length-replicate (w - k) false)) ((number-parts w k a h e).1 ∙ z ∙ sym (number-zeros (w - k)))

pub rem_from_zeros : (w k : ℕ) (a : List Bool) → k ≤ w → length a ≡ w → drop k a ≡ zeros (w - k) → number a % 2 ^ (w - k) ≡ 0
rem_from_zeros w k a h e z = sym (number-parts w k a h e).1 ∙ ap number z ∙ number-zeros (w - k)

-- the test of the host part, on the number
pub host_zero-test : (w k : ℕ) (a : List Bool) → k ≤ w → length a ≡ w → bit_eq (drop k a) (zeros (w - k)) ≡ (number a % 2 ^ (w - k) == 0)
host_zero-test w k a h e =
    elim (cases_eq (number a % 2 ^ (w - k)) 0) [
      | inl z ↦ (bit_eq_Decides (drop k a) (zeros (w - k))).1 (zeros_from_rem w k a h e z) ∙ sym (eq-eqb _ 0 z)
      | inr n ↦ false_from_ne_true _ (λ t. n (rem_from_zeros w k a h e ((bit_eq_Decides (drop k a) (zeros (w - k))).0 t))) ∙ sym (ne_eqb _ 0 n)
    ]

one_row : (a b : ℕ) → 0 < a → (a - 1) * b + b ≡ a * b
one_row a b h =
    let c = a - 1 in
    let e : a ≡ c + 1 = omega arith in
    let m : a * b ≡ c * b + b = ap (λ t. t * b) e ∙ omega arith in
    sym m

-- the number of an address whose bits from k on are zero
number_of_zeros : (w k : ℕ) (a : List Bool) → k ≤ w → length a ≡ w → drop k a ≡ zeros (w - k) → number a ≡ number (take k a) * 2 ^ (w - k) + 0
number_of_zeros w k a h e z =
    let l = length-take-within w k a h e in
    sym (ap number (first_of-take w k a h e z)) ∙ number-append (take k a) (zeros (w - length (take k a))) ∙ rw (l, length-replicate (w - k) false, number-zeros (w - k)) refl

-- the last address by numbers
pub bits-last : (w k : ℕ) (a : List Bool) → k ≤ w → length a ≡ w → drop k a ≡ zeros (w - k) → bits w (number a + (2 ^ (w - k) - 1)) ≡ last_of w (take k a)
bits-last w k a h e z =
    let l = length-take-within w k a h e in
    let pos = pow_pos (w - k) in
    let whole = number_of_zeros w k a h e z in
    let split : bits (k + (w - k)) (number (take k a) * 2 ^ (w - k) + (2 ^ (w - k) - 1)) ≡ bits k (number (take k a)) ++ bits (w - k) (2 ^ (w - k) - 1) =
    bits-cat k (w - k) (number (take k a)) (2 ^ (w - k) - 1) (omega arith) in
    let width : k + (w - k) ≡ w = omega arith in
    let front : bits k (number (take k a)) ≡ take k a = same_from_number k (number (take k a)) (take k a) l refl in
    let sum : number a + (2 ^ (w - k) - 1) ≡ number (take k a) * 2 ^ (w - k) + (2 ^ (w - k) - 1) = omega arith in
    rw (l, sum) (ap (λ m. bits m (number (take k a) * 2 ^ (w - k) + (2 ^ (w - k) - 1))) (sym width) ∙ split ∙ ap₂ (λ x y. x ++ y) front (bits-ones (w - k)))

pub last_fits : (w k : ℕ) (a : List Bool) → k ≤ w → length a ≡ w → drop k a ≡ zeros (w - k) → number a + (2 ^ (w - k) - 1) < 2 ^ w
last_fits w k a h e z =
    let l = length-take-within w k a h e in
    let pos = pow_pos (w - k) in
    let whole = number_of_zeros w k a h e z in
    let low : number (take k a) < 2 ^ k = rw l at (number-lt (take k a)) in
    let p : 2 ^ w ≡ 2 ^ k * 2 ^ (w - k) = ap (λ m. 2 ^ m) (omega arith) ∙ pow-add 2 k (w - k) in
    let row : number (take k a) * 2 ^ (w - k) + 2 ^ (w - k) ≤ 2 ^ k * 2 ^ (w - k) = row_fits (number (take k a)) (2 ^ (w - k)) (2 ^ k) (2 ^ (w - k)) low (omega arith) in
    omega arith

-- the mask by numbers
pub bits-mask : (w k : ℕ) (a : List Bool) → k ≤ w → length a ≡ w → bits w (2 ^ w - 1 - (2 ^ (w - k) - 1)) ≡ mask_of w (take k a)
bits-mask w k a h e =
    let l = length-take-within w k a h e in
    let posk = pow_pos k in
    let pos = pow_pos (w - k) in
    let p : 2 ^ w ≡ 2 ^ k * 2 ^ (w - k) = ap (λ m. 2 ^ m) (omega arith) ∙ pow-add 2 k (w - k) in
    let q : (2 ^ k - 1) * 2 ^ (w - k) + 2 ^ (w - k) ≡ 2 ^ k * 2 ^ (w - k) = one_row (2 ^ k) (2 ^ (w - k)) posk in
    let sum : 2 ^ w - 1 - (2 ^ (w - k) - 1) ≡ (2 ^ k - 1) * 2 ^ (w - k) + 0 = omega arith in
    let split : bits (k + (w - k)) ((2 ^ k - 1) * 2 ^ (w - k) + 0) ≡ bits k (2 ^ k - 1) ++ bits (w - k) 0 = bits-cat k (w - k) (2 ^ k - 1) 0 pos in
    let width : k + (w - k) ≡ w = omega arith in
    rw (l, sum) (ap (λ m. bits m ((2 ^ k - 1) * 2 ^ (w - k) + 0)) (sym width) ∙ split ∙ ap₂ (λ x y. x ++ y) (bits-ones k) (bits-zero (w - k)))

-- the test of the first bits, on the numbers
pub prefix-test : (w k : ℕ) (a b : List Bool) → k ≤ w → length a ≡ w → length b ≡ w → (number a / 2 ^ (w - k) ≡ number b / 2 ^ (w - k)) ↔ BeginsWith a (take k b)
prefix-test w k a b h e f =
    let la = length-take-within w k a h e in
    let lb = length-take-within w k b h f in
    let na = (number-parts w k a h e).0 in
    let nb = (number-parts w k b h f).0 in (
      λ same. rw lb (same_from_numbers (take k a) (take k b) (la ∙ sym lb) (na ∙ same ∙ sym nb)),
      λ begins. sym na ∙ ap number (rw lb at begins) ∙ nb,
    )

-- the same of the number itself
pub bits-mask_number : (w k : ℕ) → k ≤ w → bits w (2 ^ w - 1 - (2 ^ (w - k) - 1)) ≡ ones k ++ zeros (w - k)
bits-mask_number w k h =
    let a = zeros w in
    let e : length a ≡ w = length-replicate w false in
    rw (length-take-within w k a h e) at (bits-mask w k a h e)

pub ruleset number_test_laws = (bits-mask_number, prefix-test, host_zero-test)

pub ruleset whole_laws = (take_all, drop_all)
