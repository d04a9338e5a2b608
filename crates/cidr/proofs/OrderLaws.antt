-- Networks in order: by first address, then by length, is the lexicographic order of bits.
use Rattle.std.proofs.Common.{◌≡◌, ℕ, zero, suc, ◌+◌, ◌*◌, ◌-◌, ◌<◌, ◌≤◌, min, Bool, true, false, ◌&&◌, List, [], ◌∷◌, length, take, drop, ◌==◌, refl, sym, ap, ap₂, ◌∙◌, arith, inl, inr}
use Rattle.std.proofs.lemmas.Bool.{cases_eq, cases_lt}
use Rattle.std.proofs.lemmas.Bool.Decides.{nat_tests}
use Rattle.std.proofs.lemmas.Cmp.{tied_itself}
use Rattle.std.proofs.lemmas.Nat.{mul-le}
use Rattle.std.specs.declared.cmp.Ordering.TheVariants.{Less, Greater}
use Rattle.std.specs.Ordering.{nat_cmp, ordering_then, is_eq, ord_min}
use Rattle.cidr.specs.model.Bits.{number, bit_cmp, bit_eq}
use Rattle.cidr.specs.laws.BitLaws.{bit_cmp-numbers, bit_cmp_total, bit_eq_ties, then_tie}
use Rattle.cidr.specs.model.Network.{zeros, first_of}
use Rattle.cidr.specs.laws.NetworkLaws.{first_of-take, length-take-within, length-first_of}
use Rattle.cidr.proofs.NetworkNumbers.{number-zeros}

-- nothing is below zeros
then_less : (n : ℕ) → ordering_then (nat_cmp 0 n) Less ≡ Less
then_less n = elim (cases_eq n 0) [ inl e ↦ rw e refl | inr h ↦ grind (arith, nat_tests) ]

then_greater : (n : ℕ) → ordering_then (nat_cmp n 0) Greater ≡ Greater
then_greater n = elim (cases_eq n 0) [ inl e ↦ rw e refl | inr h ↦ grind (arith, nat_tests) ]

nat_cmp_less : (n : ℕ) → nat_cmp 0 (suc n) ≡ Less
nat_cmp_less n = grind (arith, nat_tests)

nat_cmp_greater : (n : ℕ) → nat_cmp (suc n) 0 ≡ Greater
nat_cmp_greater n = grind (arith, nat_tests)

nat_cmp_suc : (m n : ℕ) → nat_cmp (suc m) (suc n) ≡ nat_cmp m n
nat_cmp_suc m n = grind (arith, nat_tests)

pub bit_cmp-padded : (w : ℕ) (p q : List Bool) → length p ≤ w → length q ≤ w → bit_cmp p q ≡ ordering_then (bit_cmp (first_of w p) (first_of w q)) (nat_cmp (length p) (length q))
bit_cmp-padded w [] [] h k = rw (tied_itself bit_cmp_total (zeros (w - 0))) refl
bit_cmp-padded w [] (c ∷ q) h k =
    let lp = length-first_of w [] h in
    let lq = length-first_of w (c ∷ q) k in
    rw (bit_cmp-numbers (first_of w []) (first_of w (c ∷ q)) (lp ∙ sym lq), number-zeros (w - 0), nat_cmp_less (length q)) (sym (then_less (number (first_of w (c ∷ q)))))
bit_cmp-padded w (b ∷ p) [] h k =
    let lp = length-first_of w (b ∷ p) h in
    let lq = length-first_of w [] k in
    rw (bit_cmp-numbers (first_of w (b ∷ p)) (first_of w []) (lp ∙ sym lq), number-zeros (w - 0), nat_cmp_greater (length p)) (sym (then_greater (number (first_of w (b ∷ p)))))
bit_cmp-padded zero (b ∷ p) (c ∷ q) h k = absurd (omega arith)
bit_cmp-padded (suc w) (true ∷ p) (true ∷ q) h k =
    let ep : suc w - suc (length p) ≡ w - length p = omega arith in
    let eq : suc w - suc (length q) ≡ w - length q = omega arith in
    rw (ep, eq, nat_cmp_suc (length p) (length q)) (bit_cmp-padded w p q (omega arith) (omega arith))
bit_cmp-padded (suc w) (false ∷ p) (false ∷ q) h k =
    let ep : suc w - suc (length p) ≡ w - length p = omega arith in
    let eq : suc w - suc (length q) ≡ w - length q = omega arith in
    rw (ep, eq, nat_cmp_suc (length p) (length q)) (bit_cmp-padded w p q (omega arith) (omega arith))
bit_cmp-padded (suc w) (true ∷ p) (false ∷ q) h k = refl
bit_cmp-padded (suc w) (false ∷ p) (true ∷ q) h k = refl

-- the same of the addresses and lengths of two networks
pub cmp-networks : (w k j : ℕ) (a b : List Bool) → k ≤ w → length a ≡ w → drop k a ≡ zeros (w - k) → j ≤ w → length b ≡ w
    → drop j b ≡ zeros (w - j) → bit_cmp (take k a) (take j b) ≡ ordering_then (bit_cmp a b) (nat_cmp k j)
cmp-networks w k j a b hk la za hj lb zb =
    let ka = length-take-within w k a hk la in
    let jb = length-take-within w j b hj lb in
    bit_cmp-padded w (take k a) (take j b) (omega arith) (omega arith) ∙
    ap₂ ordering_then (ap₂ bit_cmp (first_of-take w k a hk la za) (first_of-take w j b hj lb zb)) (ap₂ nat_cmp ka jb)

pub eq-networks : (w k j : ℕ) (a b : List Bool) → k ≤ w → length a ≡ w → drop k a ≡ zeros (w - k) → j ≤ w → length b ≡ w
    → drop j b ≡ zeros (w - j) → bit_eq (take k a) (take j b) ≡ (bit_eq a b && (k == j))
eq-networks w k j a b hk la za hj lb zb =
    bit_eq_ties (take k a) (take j b) ∙ ap is_eq (cmp-networks w k j a b hk la za hj lb zb) ∙ then_tie (bit_cmp a b) k j ∙ ap (λ t. t && (k == j)) (sym (bit_eq_ties a b))

pub ruleset order_laws = (cmp-networks, eq-networks, first_of-take, length-take-within)

-- the least of two numbers, and of three
pub least : (m n : ℕ) → ord_min nat_cmp m n ≡ min m n
least m n = elim (cases_lt n m) [ inl low ↦ grind (arith, nat_tests) | inr high ↦ grind (arith, nat_tests) ]

pub least_of_three : (m n x y s r j : ℕ) → r ≡ ord_min nat_cmp j s → j ≡ ord_min nat_cmp m n → m ≡ x → n ≡ y → r ≡ min (min x y) s
least_of_three m n x y s r j h k first second =
    h ∙ least j s ∙ ap (λ t. min t s) (k ∙ least m n ∙ ap₂ min first second)

-- two numbers in one: the first counts more than the second
pub key_cmp : (r x m y n : ℕ) → m < r → n < r → nat_cmp (x * r + m) (y * r + n) ≡ ordering_then (nat_cmp x y) (nat_cmp m n)
key_cmp r x m y n h k =
    elim (cases_eq x y) [
      | inl same ↦ rw same (tied m n)
      | inr other ↦ elim (cases_lt x y) [
        | inl low ↦
            let row = mul-le (x + 1) r y r (omega arith) (omega arith) in
            let wide : (x + 1) * r ≡ x * r + r = omega arith in
            let below : x * r + m < y * r + n = omega arith in
            grind (arith, nat_tests)
        | inr high ↦
            let row = mul-le (y + 1) r x r (omega arith) (omega arith) in
            let wide : (y + 1) * r ≡ y * r + r = omega arith in
            let below : y * r + n < x * r + m = omega arith in
            grind (arith, nat_tests)
      ]
    ]
  where
    tied : (i j : ℕ) → nat_cmp (y * r + i) (y * r + j) ≡ ordering_then (nat_cmp y y) (nat_cmp i j)
    tied i j = grind (arith, nat_tests)

pub ruleset key_laws = (key_cmp)
