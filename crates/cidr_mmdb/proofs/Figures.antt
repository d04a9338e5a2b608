-- Numbers of several bytes, digits, and the decimals of binary numbers: one more, and none.
use Rattle.std.proofs.Common.{◌≡◌, refl, sym, ◌∙◌, ap, arith, ℕ, zero, suc, ◌+◌, ◌-◌, ◌*◌, ◌/◌, ◌%◌, ◌^◌, ◌<◌, ◌≤◌, Bool, true, false, List, [], ◌∷◌, ◌++◌, Option, Some, None, slice_index, append_assoc, lit≤}
use Rattle.std.specs.Prelude.{cond}
use Rattle.std.specs.Char.{digit_char}
use Rattle.std.proofs.lemmas.List.{append-nil}
use Rattle.std.proofs.Math.Nat.{pow-succ', pow-le-pow_right, one-le-pow, mul_assoc, mul_comm, mul-div_cancel_left, mul-div-le, mul-le-mul_left, mul-le-mul_right, add-mul}
use Rattle.std.proofs.lemmas.Nat.{mul-le}
use Rattle.cidr_mmdb.specs.Numbers.{number_at}
use Rattle.cidr_mmdb.specs.Numerals.{digits_of, is_near, nearest, shortest}

-- ---- bytes
pub number_more : (bytes : List ℕ) (value place left : ℕ) → 0 < left
    → (value * 256 + slice_index bytes place) * 256 ^ (left - 1) + number_at bytes (place + 1) (left - 1) ≡ value * 256 ^ left + number_at bytes place left
number_more bytes value place zero some = absurd (omega arith)
number_more bytes value place (suc n) some =
    let k : suc n - 1 ≡ n = omega arith in
    let power : value * 256 ^ suc n ≡ value * (256 * 256 ^ n) = ap (λ p. value * p) (pow-succ' 256 n) in
    ap (λ m. (value * 256 + slice_index bytes place) * 256 ^ m + number_at bytes (place + 1) m) k
    ∙ omega (arith, mul_assoc value 256 (256 ^ n), add-mul (value * 256) (slice_index bytes place) (256 ^ n))

-- ---- digits
pub digits_more : (front : List ℕ) (base n left : ℕ) → 0 < left
    → (front ++ digit_char (n / base ^ (left - 1) % base) ∷ []) ++ digits_of base (left - 1) n ≡ front ++ digits_of base left n
unfolding digits_of
digits_more front base n zero some = absurd (omega arith)
digits_more front base n (suc k) some =
    let e : suc k - 1 ≡ k = omega arith in
    ap (λ m. (front ++ digit_char (n / base ^ m % base) ∷ []) ++ digits_of base m n) e ∙ append_assoc front (digit_char (n / base ^ k % base) ∷ []) (digits_of base k n)

pub unit_less : (base left : ℕ) → 0 < base → 0 < left → base ^ left / base ≡ base ^ (left - 1)
unit_less base zero positive some = absurd (omega arith)
unit_less base (suc k) positive some =
    let e : suc k - 1 ≡ k = omega arith in
    ap (λ x. x / base) (pow-succ' base k) ∙ mul-div_cancel_left (base ^ k) positive ∙ ap (λ m. base ^ m) (sym e)

pub digits_done : (front : List ℕ) (base n left : ℕ) → left ≡ 0 → front ++ digits_of base left n ≡ front
unfolding digits_of
digits_done front base n zero e = append-nil front
digits_done front base n (suc k) e = absurd (omega arith)

-- ---- places
abbrev pub found_at : ℕ → ℕ → Option (ℕ × ℕ)
found_at digits places = Some (digits, places)

abbrev or_more : ℕ → ℕ → ℕ → ℕ → Bool → Option (ℕ × ℕ)
or_more m unit places n near = cond near (found_at (nearest m unit (10 ^ places)) places) (shortest m unit (places + 1) n)

places_of : (m unit places left : ℕ) → 0 < left → shortest m unit places left ≡ or_more m unit places (left - 1) (is_near m unit (10 ^ places))
unfolding shortest
places_of m unit places zero some = absurd (omega arith)
places_of m unit places (suc n) some =
    let e : n ≡ suc n - 1 = omega arith in
    ap (λ k. or_more m unit places k (is_near m unit (10 ^ places))) e

pub places_found : (m unit places left digits power : ℕ) → 0 < left → power ≡ 10 ^ places → digits ≡ nearest m unit power → is_near m unit power ≡ true
    → found_at digits places ≡ shortest m unit places left
places_found m unit places left digits power some e d near =
    ap (λ x. found_at x places) (d ∙ ap (λ x. nearest m unit x) e)
    ∙ sym (places_of m unit places left some ∙ ap (or_more m unit places (left - 1)) (ap (λ x. is_near m unit x) (sym e) ∙ near))

pub places_passed : (m unit places left power : ℕ) → 0 < left → power ≡ 10 ^ places → is_near m unit power ≡ false
    → shortest m unit (places + 1) (left - 1) ≡ shortest m unit places left
places_passed m unit places left power some e far =
    sym (places_of m unit places left some ∙ ap (or_more m unit places (left - 1)) (ap (λ x. is_near m unit x) (sym e) ∙ far))

pub places_done : (m unit places left : ℕ) → left ≡ 0 → shortest m unit places left ≡ None
unfolding shortest
places_done m unit places zero e = refl
places_done m unit places (suc n) e = absurd (omega arith)

-- ---- what fits into 128 bits
pub number_room : (value left count : ℕ) → 0 < left → count ≤ 16 → (value + 1) * 256 ^ left ≤ 256 ^ count → (value + 1) * 256 ≤ 2 ^ 128
number_room value left count some few below =
    let most : 256 ^ count ≤ 256 ^ 16 = pow-le-pow_right (lit≤ tt) few in
    let least : 256 ^ 1 ≤ 256 ^ left = pow-le-pow_right (lit≤ tt) some in
    omega (arith, mul-le-mul_left (value + 1) least)

pub number_below : (value byte left count : ℕ) → 0 < left → byte < 256 → (value + 1) * 256 ^ left ≤ 256 ^ count
    → (value * 256 + byte + 1) * 256 ^ (left - 1) ≤ 256 ^ count
number_below value byte zero count some small below = absurd (omega arith)
number_below value byte (suc n) count some small below =
    let k : suc n - 1 ≡ n = omega arith in
    let grown : value * 256 + byte + 1 ≤ (value + 1) * 256 = omega arith in
    let power : (value + 1) * 256 ^ suc n ≡ (value + 1) * (256 * 256 ^ n) = ap (λ p. (value + 1) * p) (pow-succ' 256 n) in
    let all : (value + 1) * 256 * 256 ^ n ≤ 256 ^ count = omega (arith, mul_assoc (value + 1) 256 (256 ^ n)) in
    rw k (omega (arith, mul-le-mul_right (256 ^ n) grown))

pub product_fits : (m power : ℕ) → m < 2 ^ 53 → power ≤ 10 ^ 22 → m * power ≤ 2 ^ 53 * 10 ^ 22
product_fits m power bits short = mul-le m power (2 ^ 53) (10 ^ 22) (omega arith) short

pub near_fits : (m unit power : ℕ) → m < 2 ^ 53 → unit ≤ 2 ^ 70 → power ≤ 10 ^ 22 → nearest m unit power * unit ≤ 2 * (m * power) + unit
near_fits m unit power bits few short =
    omega (arith, mul-div-le (2 * (m * power) + unit) (2 * unit), mul_assoc 2 unit (nearest m unit power), mul_comm unit (nearest m unit power))

pub unit_above : (base left : ℕ) → 0 < base → 0 < base ^ left
unit_above base left positive = one-le-pow left base positive
