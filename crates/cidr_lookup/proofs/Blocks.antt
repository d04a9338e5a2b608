-- Blocks of 64 ^ steps numbers, and the 64 parts of one.
use Rattle.std.proofs.Common.{◌≡◌, sym, ap, ◌∙◌, arith, inl, inr, ℕ, zero, suc, ◌+◌, ◌-◌, ◌*◌, ◌/◌, ◌%◌, ◌^◌, ◌<◌, ◌≤◌, List, get_or, length, map}
use Rattle.std.proofs.Math.Nat.{mul_assoc, mul_right_comm}
use Rattle.std.proofs.Math.Pow.{pow_mono}
use Rattle.std.proofs.lemmas.Bool.{cases_lt}
use Rattle.std.proofs.lemmas.List.{get_or-map}
use Rattle.std.proofs.lemmas.Nat.{pow_pos, pow-add, mod_below, mod-pow-add, mul-le, mul-mod_first, one_shl, shl-shr, shr-shr, shr_below, shr_high, shr_split, le-div, div_below, div-add-mod', div-mul-add, mod-mul-add}

-- a number of a block is between its ends
pub in_block : (number block s : ℕ) → 0 < s → number / s ≡ block → (block * s ≤ number) × (number < (block + 1) * s)
in_block number block s some e =
    let split = div-add-mod' number s in
    let less = mod_below number s some in
    let same : number / s * s ≡ block * s = ap (λ q. q * s) e in
    (omega (arith, split, same), omega (arith, split, less, same))

-- and each between them is of the block
pub of_block : (number block s : ℕ) → 0 < s → block * s ≤ number → number < (block + 1) * s → number / s ≡ block
of_block number block s some le lt = omega (arith, le-div block number s some le, div_below number s (block + 1) some lt)

-- where a block ends
pub ends_behind : (number block s : ℕ) → 0 < s → number / s ≤ block → number < (block + 1) * s
ends_behind number block s some le =
    let up = mul-le (number / s) s block s le (omega arith) in
    omega (arith, div-add-mod' number s, mod_below number s some, up)

pub ends_before : (number block s : ℕ) → block < number / s → (block + 1) * s ≤ number
ends_before number block s lt =
    let up = mul-le (block + 1) s (number / s) s (omega arith) (omega arith) in
    omega (arith, div-add-mod' number s, up)

power : (steps : ℕ) → 0 < steps → 2 ^ (6 * steps) ≡ 64 * 2 ^ (6 * (steps - 1))
power steps some =
    let e : 6 * steps ≡ 6 + 6 * (steps - 1) = omega arith in
    ap (λ j. 2 ^ j) e ∙ pow-add 2 6 (6 * (steps - 1))

-- the parts before one begin and end in the block
pub part_ends : (steps block part : ℕ) → 0 < steps → part ≤ 64 → (block * 64 + part) * 2 ^ (6 * (steps - 1)) ≤ (block + 1) * 2 ^ (6 * steps)
part_ends steps block part some le =
    let p = 2 ^ (6 * (steps - 1)) in
    let up : (block * 64 + part) * p ≤ (block + 1) * 64 * p = mul-le (block * 64 + part) p ((block + 1) * 64) p (omega arith) (omega arith) in
    let same : (block + 1) * 64 * p ≡ (block + 1) * 2 ^ (6 * steps) = mul_assoc (block + 1) 64 p ∙ ap (λ n. (block + 1) * n) (sym (power steps some)) in
    omega (arith, up, same)

pub first_part : (steps block : ℕ) → 0 < steps → (block * 64 + 0) * 2 ^ (6 * (steps - 1)) ≡ block * 2 ^ (6 * steps)
first_part steps block some =
    let p = 2 ^ (6 * (steps - 1)) in
    let e : block * 64 + 0 ≡ block * 64 = omega arith in
    ap (λ n. n * p) e ∙ (mul_assoc block 64 p ∙ ap (λ n. block * n) (sym (power steps some)))

-- a part lies in the block
pub part_fits : (steps block part limit : ℕ) → 0 < steps → part < 64 → (block + 1) * 2 ^ (6 * steps) ≤ limit → (block * 64 + part + 1) * 2 ^ (6 * (steps - 1)) ≤ limit
part_fits steps block part limit some l fits =
    let e : block * 64 + (part + 1) ≡ block * 64 + part + 1 = omega arith in
    let up = part_ends steps block (part + 1) some (omega arith) in
    omega (arith, up, ap (λ n. n * 2 ^ (6 * (steps - 1))) e)

pub part_number : (steps block part size : ℕ) → 1 < steps → part < 64 → size ≤ 130 → (block + 1) * 2 ^ (6 * steps) ≤ 2 ^ size → block * 64 + part < 2 ^ 128
part_number steps block part size some l wide fits =
    let p = 2 ^ (6 * (steps - 1)) in
    let most : 2 ^ size ≤ 2 ^ 130 = pow_mono {j = 130} wide in
    let six : 2 ^ 6 ≤ p = pow_mono {i = 6} {j = 6 * (steps - 1)} (omega arith) in
    let up : (block * 64 + part + 1) * 2 ^ 6 ≤ (block * 64 + part + 1) * p = mul-le (block * 64 + part + 1) (2 ^ 6) (block * 64 + part + 1) p (omega arith) six in
    omega (arith, up, most, part_fits steps block part (2 ^ size) (omega arith) l fits)

-- a block in which a range begins: the range behind the last one that begins at most with its first number
pub cut : (steps block k count next : ℕ) → (k + 1 < count → block * 2 ^ (6 * steps) < next) → ((k + 1 < count → block < next / 2 ^ (6 * steps)) → ⊥)
    → (k + 1 < count) × (block * 2 ^ (6 * steps) < next) × (next / 2 ^ (6 * steps) ≤ block)
cut steps block k count next behind other = elim (cases_lt (k + 1) count) [
  | inl more ↦ elim (cases_lt block (next / 2 ^ (6 * steps))) [
    | inl less ↦ absurd (other (λ _. less))
    | inr inner ↦ (more, behind more, omega (arith, inner))
  ]
  | inr past ↦ absurd (other (λ more. absurd (omega arith)))
]

-- what is behind the first number of a part that it begins in has more than one number, and so has steps
pub deeper : (steps number next : ℕ) → number * 2 ^ (6 * (steps - 1)) < next → next / 2 ^ (6 * (steps - 1)) ≤ number → 1 < steps
deeper zero number next lt le = absurd (omega arith)
deeper (suc zero) number next lt le = absurd (omega arith)
deeper (suc (suc steps)) number next lt le = omega arith

-- ---- numbers with zeros behind them, and the addresses that they are of
pub scaled : (x p s : ℕ) → p ≤ s → x * 2 ^ p / 2 ^ s ≡ x / 2 ^ (s - p)
scaled x p s le =
    let e : p + (s - p) ≡ s = omega arith in
    ap (λ j. x * 2 ^ p / 2 ^ j) (sym e) ∙ (sym (shr-shr (x * 2 ^ p) p (s - p)) ∙ ap (λ y. y / 2 ^ (s - p)) (shl-shr x p))

-- ---- the bits behind the first k of an address of w bits with p zeros behind it
high_of : (x j k : ℕ) → x % 2 ^ (j + k) / 2 ^ k ≡ x / 2 ^ k % 2 ^ j
high_of x j k = ap (λ n. n / 2 ^ k) (mod-pow-add x j k) ∙ shr_high (x / 2 ^ k % 2 ^ j) k (x % 2 ^ k) (mod_below x (2 ^ k) (pow_pos k))

-- the first six of them are those before the last s of the number with zeros
pub first_six : (v w p k s : ℕ) → 6 ≤ w → k + s + 6 ≡ w + p → v * 2 ^ k % 2 ^ w / 2 ^ (w - 6) ≡ v * 2 ^ p / 2 ^ s % 64
first_six v w p k s wide is =
    let e : 6 + (w - 6) ≡ w = omega arith in
    let d : k + s - p ≡ w - 6 = omega arith in
    let c : k + s - k ≡ s = omega arith in
    let turned : v * 2 ^ k * 2 ^ p / 2 ^ (k + s) ≡ v * 2 ^ p * 2 ^ k / 2 ^ (k + s) = ap (λ n. n / 2 ^ (k + s)) (mul_right_comm v (2 ^ k) (2 ^ p)) in
    let one : v * 2 ^ k / 2 ^ (w - 6) ≡ v * 2 ^ k * 2 ^ p / 2 ^ (k + s) = sym (scaled (v * 2 ^ k) p (k + s) (omega arith) ∙ ap (λ j. v * 2 ^ k / 2 ^ j) d) in
    let two : v * 2 ^ p * 2 ^ k / 2 ^ (k + s) ≡ v * 2 ^ p / 2 ^ s = scaled (v * 2 ^ p) k (k + s) (omega arith) ∙ ap (λ j. v * 2 ^ p / 2 ^ j) c in
    ap (λ j. v * 2 ^ k % 2 ^ j / 2 ^ (w - 6)) (sym e) ∙ (high_of (v * 2 ^ k) 6 (w - 6) ∙ ap (λ n. n % 64) (one ∙ (turned ∙ two)))

-- and what is behind j more
pub behind_more : (v w k j k' : ℕ) → k' ≡ k + j → v * 2 ^ k % 2 ^ w * 2 ^ j % 2 ^ w ≡ v * 2 ^ k' % 2 ^ w
behind_more v w k j k' is =
    mul-mod_first (v * 2 ^ k) (2 ^ j) (2 ^ w) ∙ ap (λ n. n % 2 ^ w) (mul_assoc v (2 ^ k) (2 ^ j) ∙ ap (λ n. v * n) (sym (pow-add 2 k j) ∙ ap (λ i. 2 ^ i) (sym is)))

-- the number of one of them
pub start_at : {W : Type 0} (value : W → ℕ) (starts : List W) (j : ℕ) (one : W) → one ≡ get_or starts j one → j < length starts → get_or (map value starts) j 0 ≡ value one
start_at value starts j one is l = get_or-map value starts j one 0 l ∙ ap value (sym is)

-- where another range begins in a block
pub begun : (next long block at : ℕ) → ((next < long → block < at) → ⊥) → (next < long) × (at ≤ block)
begun next long block at other = elim (cases_lt next long) [
  | inl more ↦ elim (cases_lt block at) [
    | inl less ↦ absurd (other (λ _. less))
    | inr not_less ↦ (more, omega (arith, not_less))
  ]
  | inr past ↦ absurd (other (λ more. absurd (omega (arith, past, more))))
]

pub later : (steps block part part' : ℕ) → part ≤ part' → (block * 64 + part) * 2 ^ (6 * (steps - 1)) ≤ (block * 64 + part') * 2 ^ (6 * (steps - 1))
later steps block part part' le = mul-le (block * 64 + part) (2 ^ (6 * (steps - 1))) (block * 64 + part') (2 ^ (6 * (steps - 1))) (omega arith) (omega arith)

pub padded_fits : (n w p : ℕ) → n < 2 ^ w → n * 2 ^ p < 2 ^ (w + p)
padded_fits n w p lt =
    let up : (n + 1) * 2 ^ p ≤ 2 ^ w * 2 ^ p = mul-le (n + 1) (2 ^ p) (2 ^ w) (2 ^ p) (omega arith) (omega arith) in
    omega (arith, up, pow-add 2 w p, pow_pos p)

pub far : (a n s : ℕ) → 0 < s → n / s < a → n < a * s
far a n s some lt =
    let up : (n / s + 1) * s ≤ a * s = mul-le (n / s + 1) s a s (omega arith) (omega arith) in
    omega (arith, div-add-mod' n s, mod_below n s some, up)

pub near : (a n s : ℕ) → a ≤ n / s → a * s ≤ n
near a n s le = omega (arith, div-add-mod' n s, mul-le a s (n / s) s le (omega arith))

pub no_rest : (r s : ℕ) → 0 < s → r * s ≡ 0 → r ≡ 0
no_rest r s some none = elim (cases_lt 0 r) [
  | inl more ↦ absurd (omega (arith, mul-le 1 s r s (omega arith) (omega arith), none))
  | inr no_more ↦ omega arith
]

-- the rest behind a multiple
pub rest : (x p q : ℕ) → x % 2 ^ q * 2 ^ p ≡ x * 2 ^ p % 2 ^ (q + p)
rest x p q =
    let r = x % 2 ^ q in
    let less : r < 2 ^ q = mod_below x (2 ^ q) (pow_pos q) in
    let below : r * 2 ^ p < 2 ^ (q + p) =
    let up : (r + 1) * 2 ^ p ≤ 2 ^ q * 2 ^ p = mul-le (r + 1) (2 ^ p) (2 ^ q) (2 ^ p) (omega arith) (omega arith) in
    omega (arith, up, pow-add 2 q p, pow_pos p) in
    let whole : x * 2 ^ p ≡ x / 2 ^ q * 2 ^ (q + p) + r * 2 ^ p =
    ap (λ n. n * 2 ^ p) (sym (div-add-mod' x (2 ^ q))) ∙ (omega arith ∙ ap (λ n. n + r * 2 ^ p) (mul_assoc (x / 2 ^ q) (2 ^ q) (2 ^ p) ∙ ap (λ n. x / 2 ^ q * n) (sym (pow-add 2 q p)))) in
    sym (ap (λ n. n % 2 ^ (q + p)) whole ∙ mod-mul-add (x / 2 ^ q) (2 ^ (q + p)) (r * 2 ^ p) below)

-- the halves of what is behind the first bits of two halves
module _ (high low count : ℕ) (few : count ≤ 64) (fits : low < 2 ^ 64) where
  abbrev over : ℕ
  over = low / 2 ^ (64 - count)

  -- the higher one has room for what comes from the lower one
  pub room_behind : high * 2 ^ count % 2 ^ 64 + over < 2 ^ 64
  room_behind =
      let d = 64 - count in
      let r = high % 2 ^ d in
      let e : d + count ≡ 64 = omega arith in
      let e' : count + d ≡ 64 = omega arith in
      let is : r * 2 ^ count ≡ high * 2 ^ count % 2 ^ 64 = rest high count d ∙ ap (λ j. high * 2 ^ count % 2 ^ j) e in
      let up : (r + 1) * 2 ^ count ≤ 2 ^ d * 2 ^ count = mul-le (r + 1) (2 ^ count) (2 ^ d) (2 ^ count) (omega (arith, mod_below high (2 ^ d) (pow_pos d))) (omega arith) in
      let all : 2 ^ d * 2 ^ count ≡ 2 ^ 64 = sym (pow-add 2 d count) ∙ ap (λ j. 2 ^ j) e in
      let less : over < 2 ^ count = shr_below low count d (omega (arith, fits, ap (λ j. 2 ^ j) e')) in
      omega (arith, is, up, all, less)

  pub halves_behind : (high * 2 ^ count % 2 ^ 64 + over) * 2 ^ 64 + low * 2 ^ count % 2 ^ 64 ≡ (high * 2 ^ 64 + low) * 2 ^ count % 2 ^ 128
  halves_behind =
      let q = high * 2 ^ count / 2 ^ 64 in
      let both = (high * 2 ^ count % 2 ^ 64 + over) * 2 ^ 64 + low * 2 ^ count % 2 ^ 64 in
      let apart : (high * 2 ^ 64 + low) * 2 ^ count ≡ high * 2 ^ count * 2 ^ 64 + low * 2 ^ count = omega arith in
      let whole : (high * 2 ^ 64 + low) * 2 ^ count ≡ q * 2 ^ 128 + both =
      omega (arith, apart, shr_split (high * 2 ^ count) 64, shr_split (low * 2 ^ count) 64, scaled low count 64 few) in
      let less : both < 2 ^ 128 = omega (arith, room_behind, mod_below (low * 2 ^ count) (2 ^ 64) (pow_pos 64)) in
      sym (ap (λ n. n % 2 ^ 128) whole ∙ mod-mul-add q (2 ^ 128) both less)

-- the address of the first number of a part
module _ (steps block part padding : ℕ) (some : 0 < steps) (less : part < 64) (zeros : padding ≤ 6) where
  abbrev before : ℕ
  before = part * 2 ^ (6 * (steps - 1))

  block_is : block * 2 ^ (6 * steps - padding) * 2 ^ padding ≡ block * 2 ^ (6 * steps)
  block_is =
      let e : 6 * steps - padding + padding ≡ 6 * steps = omega arith in
      mul_assoc block (2 ^ (6 * steps - padding)) (2 ^ padding) ∙ ap (λ n. block * n) (sym (pow-add 2 (6 * steps - padding) padding) ∙ ap (λ j. 2 ^ j) e)

  number_is : (block * 64 + part) * 2 ^ (6 * (steps - 1)) ≡ block * 2 ^ (6 * steps - padding) * 2 ^ padding + before
  number_is =
      let p = 2 ^ (6 * (steps - 1)) in
      let apart : (block * 64 + part) * p ≡ block * 64 * p + part * p = omega arith in
      apart ∙ ap (λ n. n + part * p) (mul_assoc block 64 p ∙ (ap (λ n. block * n) (sym (power steps some)) ∙ sym block_is))

  pub first_address : block * 2 ^ (6 * steps - padding) + before / 2 ^ padding ≡ (block * 64 + part) * 2 ^ (6 * (steps - 1)) / 2 ^ padding
  first_address =
      let s = 2 ^ padding in
      let big = block * 2 ^ (6 * steps - padding) in
      let split : big * s + before ≡ (big + before / s) * s + before % s = omega (arith, div-add-mod' before s) in
      sym (ap (λ n. n / s) (number_is ∙ split) ∙ div-mul-add (big + before / s) s (before % s) (mod_below before s (pow_pos padding)))

  module _ (w : ℕ) (wide : w ≤ 128) (fits : (block + 1) * 2 ^ (6 * steps) ≤ 2 ^ (w + padding)) where
    -- it fits
    pub address_fits : (block * 64 + part) * 2 ^ (6 * (steps - 1)) / 2 ^ padding < 2 ^ 128
    address_fits =
        let most : 2 ^ w ≤ 2 ^ 128 = pow_mono {j = 128} wide in
        let up = part_fits steps block part (2 ^ (w + padding)) some less fits in
        let in_part : (block * 64 + part) * 2 ^ (6 * (steps - 1)) < (block * 64 + part + 1) * 2 ^ (6 * (steps - 1)) = omega (arith, pow_pos (6 * (steps - 1))) in
        let below : (block * 64 + part) * 2 ^ (6 * (steps - 1)) < 2 ^ (w + padding) = omega arith in
        omega (arith, shr_below ((block * 64 + part) * 2 ^ (6 * (steps - 1))) w padding below)

    pub block_address_fits : block * 2 ^ (6 * steps - padding) < 2 ^ 128
    block_address_fits = omega (arith, first_address, address_fits)
    -- and so does what is before the part

  pub before_fits : 6 * steps ≤ 128 → before < 2 ^ 128
  before_fits le =
      let p = 2 ^ (6 * (steps - 1)) in
      let up : (part + 1) * p ≤ 64 * p = mul-le (part + 1) p 64 p (omega arith) (omega arith) in
      let most : 2 ^ (6 * steps) ≤ 2 ^ 128 = pow_mono {j = 128} le in
      omega (arith, up, power steps some, most, pow_pos (6 * (steps - 1)))

-- the parts of a block in whose part a number is
pub part_of : (steps block next : ℕ) → 0 < steps → next / 2 ^ (6 * steps) ≡ block → next / 2 ^ (6 * (steps - 1)) ≡ block * 64 + next / 2 ^ (6 * (steps - 1)) % 64
part_of steps block next some here =
    let q = next / 2 ^ (6 * (steps - 1)) in
    let e : 6 * (steps - 1) + 6 ≡ 6 * steps = omega arith in
    let up : q / 2 ^ 6 ≡ block = shr-shr next (6 * (steps - 1)) 6 ∙ (ap (λ j. next / 2 ^ j) e ∙ here) in
    omega (arith, shr_split q 6, up)

pub parts_behind : (steps block next : ℕ) → 0 < steps → block < next / 2 ^ (6 * steps) → (block + 1) * 64 ≤ next / 2 ^ (6 * (steps - 1))
parts_behind steps block next some lt =
    let q = next / 2 ^ (6 * (steps - 1)) in
    let e : 6 * (steps - 1) + 6 ≡ 6 * steps = omega arith in
    let up : q / 2 ^ 6 ≡ next / 2 ^ (6 * steps) = shr-shr next (6 * (steps - 1)) 6 ∙ ap (λ j. next / 2 ^ j) e in
    omega (arith, shr_split q 6, up)

-- all blocks
pub all_blocks : (steps size width : ℕ) → width ≡ size → 6 * steps < size → size ≤ 6 * steps + 32 → 1 * 2 ^ (width - 6 * steps) % 2 ^ 64 * 2 ^ (6 * steps) ≡ 2 ^ size
all_blocks steps size width is some few =
    let n = width - 6 * steps in
    let e : n + 6 * steps ≡ size = omega arith in
    ap (λ x. x * 2 ^ (6 * steps)) (one_shl n 64 (omega arith)) ∙ (sym (pow-add 2 n (6 * steps)) ∙ ap (λ j. 2 ^ j) e)

-- and one of them fits
pub block_fits : (steps size count block : ℕ) → count * 2 ^ (6 * steps) ≡ 2 ^ size → block < count → (block + 1) * 2 ^ (6 * steps) ≤ 2 ^ size
block_fits steps size count block all l = omega (arith, mul-le (block + 1) (2 ^ (6 * steps)) count (2 ^ (6 * steps)) (omega arith) (omega arith))

-- there is one count of them
pub one_count : (steps all count count' : ℕ) → count * 2 ^ (6 * steps) ≡ all → count' * 2 ^ (6 * steps) ≡ all → count ≡ count'
one_count steps all count count' is is' =
    sym (shl-shr count (6 * steps)) ∙ (ap (λ n. n / 2 ^ (6 * steps)) (is ∙ sym is') ∙ shl-shr count' (6 * steps))

-- and they are few
pub few_blocks : (steps size count : ℕ) → count * 2 ^ (6 * steps) ≡ 2 ^ size → 6 * steps < size → size ≤ 6 * steps + 20 → count ≤ 2 ^ 20
few_blocks steps size count all some few =
    let n = size - 6 * steps in
    let e : n + 6 * steps ≡ size = omega arith in
    let is : count ≡ 2 ^ n = one_count steps (2 ^ size) count (2 ^ n) all (sym (pow-add 2 n (6 * steps)) ∙ ap (λ j. 2 ^ j) e) in
    let le : n ≤ 20 = omega arith in
    let most : 2 ^ n ≤ 2 ^ 20 = pow_mono {j = 20} le in
    omega (arith, is, most)
