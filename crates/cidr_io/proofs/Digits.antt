-- The digits of a number: those of its hundredth part and then two from the table.
use Rattle.std.proofs.Common.{◌≡◌, ℕ, ◌+◌, ◌*◌, ◌/◌, ◌%◌, ◌^◌, ◌<◌, ◌≤◌, List, [], ◌∷◌, ◌++◌, append_assoc, decimal, drop, get_or, length, length-append, map, nat_lt, take, IsAscii, refl, sym, ap, ◌∙◌, arith}
use Rattle.std.proofs.lemmas.Bool.{ltb-true}
use Rattle.std.proofs.lemmas.Fmt.{decimal_digit, decimal_step_wide, length-decimal-le_wide}
use Rattle.std.proofs.lemmas.List.FromFn.{get_or-map-range_with_len}
use Rattle.std.proofs.lemmas.List.Sums.{AllPass-from_list_all}
use Rattle.std.proofs.lemmas.Str.Ascii.{IsAscii-from_all}
use Rattle.std.specs.List.{range_with_len}
use Rattle.cidr_io.specs.declared.decimal.TheConstants.{PAIRS}

-- ---- the table
pub IsAscii-pairs : IsAscii PAIRS.now
IsAscii-pairs = IsAscii-from_all PAIRS.now (λ k d h. ltb-true _ 128 (AllPass-from_list_all (λ b. nat_lt b 128) PAIRS.now refl k d h))

table_at : (count : ℕ) (row f : ℕ → List ℕ) → map row (range_with_len 0 count) ≡ map f (range_with_len 0 count) → (n : ℕ) → n < count → row n ≡ f n
table_at count row f e n h =
    sym (get_or-map-range_with_len row 0 count n n [] h (omega arith)) ∙ ap (λ rows. get_or rows n []) e
    ∙ get_or-map-range_with_len f 0 count n n [] h (omega arith)

pub digit_at : (n : ℕ) → n < 10 → take 1 (drop (n * 2 + 1) PAIRS.now) ≡ (48 + n) ∷ []
digit_at n h = table_at 10 (λ k. take 1 (drop (k * 2 + 1) PAIRS.now)) (λ k. (48 + k) ∷ []) refl n h

-- the two digits of a number below 100
abbrev pub pair : ℕ → List ℕ
pair n = (48 + n / 10) ∷ (48 + n % 10) ∷ []

pub pair_at : (n : ℕ) → n < 100 → take 2 (drop (n * 2) PAIRS.now) ≡ pair n
pair_at n h = table_at 100 (λ k. take 2 (drop (k * 2) PAIRS.now)) pair refl n h

-- ---- numbers of one digit, of two and of more
pub length-one_digit : (n : ℕ) → n < 10 → length (decimal n) ≡ 1
length-one_digit n h = ap length (decimal_digit n h)

pub two_digits : (n : ℕ) → 10 ≤ n → n < 100 → decimal n ≡ pair n
two_digits n h k = decimal_step_wide n h (omega arith) ∙ ap (λ t. t ++ (48 + n % 10) ∷ []) (decimal_digit (n / 10) (omega arith))

pub length-two_digits : (n : ℕ) → 10 ≤ n → n < 100 → length (decimal n) ≡ 2
length-two_digits n h k = ap length (two_digits n h k)

pub last_digits : (n : ℕ) → 100 ≤ n → n < 2 ^ 128 → decimal n ≡ decimal (n / 100) ++ pair (n % 100)
last_digits n h k =
    let front : n / 10 / 10 ≡ n / 100 = omega arith in
    let tens : n / 10 % 10 ≡ n % 100 / 10 = omega arith in
    let ones : n % 10 ≡ n % 100 % 10 = omega arith in
    rw (decimal_step_wide n (omega arith) (omega arith), decimal_step_wide (n / 10) (omega arith) (omega arith), append_assoc, front, tens, ← ones)

pub length-last_digits : (n : ℕ) → 100 ≤ n → n < 2 ^ 128 → length (decimal n) ≡ length (decimal (n / 100)) + 2
length-last_digits n h k = ap length (last_digits n h k) ∙ length-append (decimal (n / 100)) (pair (n % 100))

-- ---- what is pushed
pub pushed_pair : (n : ℕ) (old new all : List ℕ) → 100 ≤ n → n < 2 ^ 128 → new ≡ old ++ decimal (n / 100) → all ≡ new ++ pair (n % 100) → all ≡ old ++ decimal n
pushed_pair n old new all h k front last =
    last ∙ ap (λ t. t ++ pair (n % 100)) front ∙ append_assoc old (decimal (n / 100)) (pair (n % 100))
    ∙ ap (λ t. old ++ t) (sym (last_digits n h k))

-- ---- how many there are
pub length-decimal : (n : ℕ) → n < 2 ^ 128 → length (decimal n) ≤ 39
length-decimal n h = length-decimal-le_wide 39 n (omega arith) (omega arith) (omega arith)

pub length-u8 : (n : ℕ) → n < 2 ^ 8 → length (decimal n) ≤ 3
length-u8 n h = length-decimal-le_wide 3 n (omega arith) (omega arith) (omega arith)

pub length-u16 : (n : ℕ) → n < 2 ^ 16 → length (decimal n) ≤ 5
length-u16 n h = length-decimal-le_wide 5 n (omega arith) (omega arith) (omega arith)

pub ruleset digit_laws = (digit_at, pair_at, decimal_digit, two_digits, length-one_digit, length-two_digits, length-last_digits, pushed_pair, length-decimal, length-u8, length-u16)
