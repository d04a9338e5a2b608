-- Numbers of 2h bits by their halves of h bits: u is the upper half, l the lower one, and the first k bits are the network's.
use Rattle.std.proofs.Common.{◌≡◌, ◌≢◌, ◌↔◌, ℕ, suc, ◌+◌, ◌-◌, ◌*◌, ◌/◌, ◌%◌, ◌^◌, ◌<◌, ◌≤◌, Bool, cond, refl, sym, ap, ap₂, ◌∙◌, arith, inl, inr}
use Rattle.std.proofs.Math.Nat.{mul_assoc, add-mul-mod_self_right, add_comm, add-mod-mod, mod-eq_of_lt, div-eq_of_lt}
use Rattle.std.proofs.Math.Pow.{mod-mod-pow}
use Rattle.std.proofs.lemmas.Bool.{cases_lt}
use Rattle.std.proofs.lemmas.Nat.{pow_pos, pow-add, mod-pow-add, shr_high, mod_low, shr_split, shl-shr, shr-shr, field_of, same_from_place}
use Rattle.std.specs.Int.{bit_at}
use Rattle.cidr.specs.internal.Halves.{joined}
use Rattle.cidr.specs.laws.HalfLaws.{upper-joined, lower-joined}
use Rattle.cidr.proofs.StepNumbers.{last_within, part_below, reduced, reduced_down}

-- ones that are moved down
ones-shr : (w k : ℕ) → k ≤ w → (2 ^ w - 1) / 2 ^ k ≡ 2 ^ (w - k) - 1
ones-shr w k h =
    let rows : 2 ^ w ≡ 2 ^ (w - k) * 2 ^ k = ap (λ j. 2 ^ j) (omega arith) ∙ pow-add 2 (w - k) k in
    let p = pow_pos k in
    let q = pow_pos (w - k) in
    let more = 2 ^ (w - k) - 1 in
    let count : 2 ^ (w - k) ≡ more + 1 = omega arith in
    let sum : 2 ^ w - 1 ≡ more * 2 ^ k + (2 ^ k - 1) = ap (λ x. x - 1) (rows ∙ ap (λ x. x * 2 ^ k) count) ∙ omega arith in
    ap (λ x. x / 2 ^ k) sum ∙ shr_high more k (2 ^ k - 1) (omega arith)

pub ones-shr_half : (k : ℕ) → k ≤ 64 → 18446744073709551615 / 2 ^ k ≡ 2 ^ (64 - k) - 1
ones-shr_half k h = ones-shr 64 k h

pub ones-shr_word : (k : ℕ) → k ≤ 32 → 4294967295 / 2 ^ k ≡ 2 ^ (32 - k) - 1
ones-shr_word k h = ones-shr 32 k h

pub ruleset ones_laws = (ones-shr_half, ones-shr_word)

-- the first k bits of one number and the other bits of another fit the width
pub parts_within : (w k n m : ℕ) → n < 2 ^ w → n - n % 2 ^ (w - k) + m % 2 ^ (w - k) < 2 ^ w
parts_within w k n m h =
    let below = part_below m (w - k) in
    elim (cases_lt w k) [
      | inl longer ↦
          let none : w - k ≡ 0 = omega arith in
          rw none (omega arith)
      | inr within ↦ omega (arith, last_within w k n (omega arith) h, shr_split n (w - k))
    ]

pub ruleset host_laws = (shr_split, part_below)

-- and so do the first k bits and ones behind them
pub last_fits : (w k n : ℕ) → n < 2 ^ w → n + (2 ^ (w - k) - 1 - n % 2 ^ (w - k)) < 2 ^ w
last_fits w k n h =
    let below = part_below n (w - k) in
    elim (cases_lt w k) [
      | inl longer ↦
          let none : w - k ≡ 0 = omega arith in
          rw none (omega arith)
      | inr within ↦ omega (arith, last_within w k n (omega arith) h, shr_split n (w - k))
    ]

pub last_fits_half : (k n : ℕ) → n < 2 ^ 64 → n + (2 ^ (64 - k) - 1 - n % 2 ^ (64 - k)) < 2 ^ 64
last_fits_half k n h = last_fits 64 k n h

pub ruleset last_laws = (shr_split, part_below, last_fits_half)

pub ruleset split_laws = (upper-joined, lower-joined, shr_split)

-- the host part of a sum, where the first number has its host part alone
host-first : (w k n s : ℕ) → (n + s) % 2 ^ (w - k) ≡ (n % 2 ^ (w - k) + s) % 2 ^ (w - k)
host-first w k n s =
    let c = 2 ^ (w - k) in
    ap (λ x. x % c) (add_comm n s) ∙ sym (add-mod-mod s n c) ∙ ap (λ x. x % c) (add_comm s (n % c))

-- the last bits of ones are ones
ones-low : (w k : ℕ) → k ≤ w → (2 ^ w - 1) % 2 ^ (w - k) ≡ 2 ^ (w - k) - 1
ones-low w k h =
    let p = pow_pos k in
    let q = pow_pos (w - k) in
    let rows : 2 ^ w ≡ 2 ^ k * 2 ^ (w - k) = ap (λ j. 2 ^ j) (omega arith) ∙ pow-add 2 k (w - k) in
    let more = 2 ^ k - 1 in
    let count : 2 ^ k ≡ more + 1 = omega arith in
    let sum : 2 ^ w - 1 ≡ more * 2 ^ (w - k) + (2 ^ (w - k) - 1) = ap (λ x. x - 1) (rows ∙ ap (λ x. x * 2 ^ (w - k)) count) ∙ omega arith in
    ap (λ x. x % 2 ^ (w - k)) sum ∙ mod_low more (w - k) (2 ^ (w - k) - 1) (omega arith)

-- ---- the host part by halves
mod-halves : (h k u l : ℕ) → k ≤ h + h → l < 2 ^ h → (u * 2 ^ h + l) % 2 ^ (h + h - k) ≡ u % 2 ^ (h - k) * 2 ^ h + l % 2 ^ (h - (k - h))
mod-halves h k u l fits low =
    let n = u * 2 ^ h + l in
    elim (cases_lt h k) [
      | inl longer ↦
          let none : h - k ≡ 0 = omega arith in
          let one : u % 1 ≡ 0 = omega arith in
          let same : h + h - k ≡ h - (k - h) = omega arith in
          let j = h - (k - h) in
          let width : h ≡ (h - j) + j = omega arith in
          let rows : 2 ^ h ≡ 2 ^ (h - j) * 2 ^ j = ap (λ i. 2 ^ i) width ∙ pow-add 2 (h - j) j in
          let split : n ≡ l + u * 2 ^ (h - j) * 2 ^ j = ap (λ x. u * x + l) rows ∙ omega (arith, mul_assoc u (2 ^ (h - j)) (2 ^ j)) in
          let gone : u % 2 ^ (h - k) * 2 ^ h ≡ 0 = rw none (ap (λ x. x * 2 ^ h) one ∙ omega arith) in
          let last : l % 2 ^ j ≡ u % 2 ^ (h - k) * 2 ^ h + l % 2 ^ j = omega (arith, gone) in
          ap (λ i. n % 2 ^ i) same ∙ ap (λ x. x % 2 ^ j) split ∙ add-mul-mod_self_right l (u * 2 ^ (h - j)) (2 ^ j) ∙ last
      | inr within ↦
          let same : h + h - k ≡ (h - k) + h = omega arith in
          let all : h - (k - h) ≡ h = omega arith in
          rw (same, all) (mod-pow-add n (h - k) h ∙ ap₂ (λ x y. x % 2 ^ (h - k) * 2 ^ h + y) (shr_high u h l low) (mod_low u h l low ∙ sym (mod-eq_of_lt low)))
    ]

-- and what stands before it
rounded-halves : (h k u l : ℕ) → k ≤ h + h → l < 2 ^ h
    → (u * 2 ^ h + l) / 2 ^ (h + h - k) * 2 ^ (h + h - k) ≡ u / 2 ^ (h - k) * 2 ^ (h - k) * 2 ^ h + l / 2 ^ (h - (k - h)) * 2 ^ (h - (k - h))
rounded-halves h k u l fits low =
    let i = h - k in
    let j = h - (k - h) in
    let whole = shr_split (u * 2 ^ h + l) (h + h - k) in
    let upper : u * 2 ^ h ≡ u / 2 ^ i * 2 ^ i * 2 ^ h + u % 2 ^ i * 2 ^ h = ap (λ x. x * 2 ^ h) (sym (shr_split u i)) ∙ omega arith in
    omega (arith, whole, upper, shr_split l j, mod-halves h k u l fits low)

pub host-halves : (k u l : ℕ) → k ≤ 128 → l < 2 ^ 64 → joined (u % 2 ^ (64 - k)) (l % 2 ^ (64 - (k - 64))) ≡ joined u l % 2 ^ (128 - k)
host-halves k u l fits low = sym (mod-halves 64 k u l fits low)

pub ones-halves : (k : ℕ) → k ≤ 128 → joined (2 ^ (64 - k) - 1) (2 ^ (64 - (k - 64)) - 1) ≡ 2 ^ (128 - k) - 1
ones-halves k fits =
    elim (cases_lt 64 k) [
      | inl longer ↦
          let none : 64 - k ≡ 0 = omega arith in
          let same : 64 - (k - 64) ≡ 128 - k = omega arith in
          rw (none, same) (omega arith)
      | inr within ↦
          let same : 128 - k ≡ (64 - k) + 64 = omega arith in
          let all : 64 - (k - 64) ≡ 64 = omega arith in
          let pos = pow_pos (64 - k) in
          rw (same, all, pow-add 2 (64 - k) 64) (omega arith)
    ]

pub room-halves : (k u l : ℕ) → k ≤ 128 → l < 2 ^ 64
    → joined (2 ^ (64 - k) - 1 - u % 2 ^ (64 - k)) (2 ^ (64 - (k - 64)) - 1 - l % 2 ^ (64 - (k - 64))) ≡ 2 ^ (128 - k) - 1 - joined u l % 2 ^ (128 - k)
room-halves k u l fits low =
    let upper = part_below u (64 - k) in
    let lower = part_below l (64 - (k - 64)) in
    omega (arith, ones-halves k fits, host-halves k u l fits low)

pub parts-halves : (k u l v m : ℕ) → k ≤ 128 → l < 2 ^ 64 → m < 2 ^ 64
    → joined (u / 2 ^ (64 - k) * 2 ^ (64 - k) + v % 2 ^ (64 - k)) (l / 2 ^ (64 - (k - 64)) * 2 ^ (64 - (k - 64)) + m % 2 ^ (64 - (k - 64)))
    ≡ joined u l / 2 ^ (128 - k) * 2 ^ (128 - k) + joined v m % 2 ^ (128 - k)
parts-halves k u l v m fits low lower =
    let i = 64 - k in
    let spread : (u / 2 ^ i * 2 ^ i + v % 2 ^ i) * 2 ^ 64 ≡ u / 2 ^ i * 2 ^ i * 2 ^ 64 + v % 2 ^ i * 2 ^ 64 = omega arith in
    omega (arith, spread, rounded-halves 64 k u l fits low, mod-halves 64 k v m fits lower)

pub last-halves : (k u l : ℕ) → k ≤ 128 → l < 2 ^ 64
    → joined (u / 2 ^ (64 - k) * 2 ^ (64 - k) + (2 ^ (64 - k) - 1)) (l / 2 ^ (64 - (k - 64)) * 2 ^ (64 - (k - 64)) + (2 ^ (64 - (k - 64)) - 1))
    ≡ joined u l / 2 ^ (128 - k) * 2 ^ (128 - k) + (2 ^ (128 - k) - 1)
last-halves k u l fits low =
    let i = 64 - k in
    let spread : (u / 2 ^ i * 2 ^ i + (2 ^ i - 1)) * 2 ^ 64 ≡ u / 2 ^ i * 2 ^ i * 2 ^ 64 + (2 ^ i - 1) * 2 ^ 64 = omega arith in
    omega (arith, spread, rounded-halves 64 k u l fits low, ones-halves k fits)

-- ---- the first bits of two numbers by halves
multiple-div : (a b k : ℕ) → a / 2 ^ k * 2 ^ k ≡ b / 2 ^ k * 2 ^ k → a / 2 ^ k ≡ b / 2 ^ k
multiple-div a b k same = sym (shl-shr (a / 2 ^ k) k) ∙ ap (λ x. x / 2 ^ k) same ∙ shl-shr (b / 2 ^ k) k

same-halves : (k u l v m : ℕ) → k ≤ 128 → l < 2 ^ 64 → m < 2 ^ 64
    → (joined u l / 2 ^ (128 - k) ≡ joined v m / 2 ^ (128 - k)) ↔ ((u / 2 ^ (64 - k) ≡ v / 2 ^ (64 - k)) × (l / 2 ^ (64 - (k - 64)) ≡ m / 2 ^ (64 - (k - 64))))
same-halves k u l v m fits low lower =
    let i = 64 - k in
    let j = 64 - (k - 64) in
    let c = 128 - k in
    let here = rounded-halves 64 k u l fits low in
    let there = rounded-halves 64 k v m fits lower in (
      λ same.
          let rounds : u / 2 ^ i * 2 ^ i * 2 ^ 64 + l / 2 ^ j * 2 ^ j ≡ v / 2 ^ i * 2 ^ i * 2 ^ 64 + m / 2 ^ j * 2 ^ j =
          sym here ∙ ap (λ q. q * 2 ^ c) same ∙ there in
          let places = same_from_place (u / 2 ^ i * 2 ^ i) (l / 2 ^ j * 2 ^ j) (v / 2 ^ i * 2 ^ i) (m / 2 ^ j * 2 ^ j) (2 ^ 64)
          (omega (arith, shr_split l j)) (omega (arith, shr_split m j)) rounds in
          (multiple-div u v i places.0, multiple-div l m j places.1),
      λ both. multiple-div (joined u l) (joined v m) c (here ∙ ap₂ (λ x y. x * 2 ^ i * 2 ^ 64 + y * 2 ^ j) both.0 both.1 ∙ sym there),
    )

div-whole : (w k n : ℕ) → k ≤ w → n < 2 ^ w → n / 2 ^ (w - (k - w)) ≡ 0
div-whole w k n h low =
    let all : w - (k - w) ≡ w = omega arith in
    rw all (div-eq_of_lt low)

-- s is how many first bits of the lower halves are the same
pub shared-lower : (u v l m s : ℕ) → u ≡ v → l < 2 ^ 64 → m < 2 ^ 64 → ((k : ℕ) → k ≤ 64 → (k ≤ s) ↔ (l / 2 ^ (64 - k) ≡ m / 2 ^ (64 - k)))
    → (k : ℕ) → k ≤ 128 → (k ≤ 64 + s) ↔ (joined u l / 2 ^ (128 - k) ≡ joined v m / 2 ^ (128 - k))
shared-lower u v l m s e low lower shared k fits =
    let same = same-halves k u l v m fits low lower in
    let upper : u / 2 ^ (64 - k) ≡ v / 2 ^ (64 - k) = ap (λ x. x / 2 ^ (64 - k)) e in
    elim (cases_lt 64 k) [
      | inl longer ↦
          let part = shared (k - 64) (omega arith) in (
            λ few. same.1 (upper, part.0 (omega arith)),
            λ equal. let few = part.1 (same.0 equal).1 in omega arith,
          )
      | inr within ↦ (
        λ few. same.1 (upper, div-whole 64 k l within low ∙ sym (div-whole 64 k m within lower)),
        λ equal. omega arith,
      )
    ]

-- or of the upper halves, which are not the same
pub shared-upper : (u v l m s : ℕ) → u ≢ v → l < 2 ^ 64 → m < 2 ^ 64 → s ≤ 64 → ((k : ℕ) → k ≤ 64 → (k ≤ s) ↔ (u / 2 ^ (64 - k) ≡ v / 2 ^ (64 - k)))
    → (k : ℕ) → k ≤ 128 → (k ≤ s) ↔ (joined u l / 2 ^ (128 - k) ≡ joined v m / 2 ^ (128 - k))
shared-upper u v l m s other low lower most shared k fits =
    let same = same-halves k u l v m fits low lower in
    elim (cases_lt 64 k) [
      | inl longer ↦
          let none : 64 - k ≡ 0 = omega arith in (
            λ few. absurd (omega arith),
            λ equal.
                let whole : u / 2 ^ 0 ≡ v / 2 ^ 0 = rw none at (same.0 equal).0 in
                absurd (other (omega arith)),
          )
      | inr within ↦
          let part = shared k within in (
            λ few. same.1 (part.0 few, div-whole 64 k l within low ∙ sym (div-whole 64 k m within lower)),
            λ equal. part.1 (same.0 equal).0,
          )
    ]

-- ---- single bits by halves
-- a bit that is moved down
place-shr : (w k : ℕ) → k ≤ w → 2 ^ w / 2 ^ k ≡ 2 ^ (w - k)
place-shr w k h =
    let rows : 2 ^ w ≡ 2 ^ (w - k) * 2 ^ k = ap (λ j. 2 ^ j) (omega arith) ∙ pow-add 2 (w - k) k in
    ap (λ x. x / 2 ^ k) rows ∙ shl-shr (2 ^ (w - k)) k

pub place-shr_pair : (k : ℕ) → k ≤ 127 → 170141183460469231731687303715884105728 / 2 ^ k ≡ 2 ^ (127 - k)
place-shr_pair k h = place-shr 127 k h

pub place-shr_word : (k : ℕ) → k ≤ 31 → 2147483648 / 2 ^ k ≡ 2 ^ (31 - k)
place-shr_word k h = place-shr 31 k h

pub ruleset place_laws = (place-shr_pair, place-shr_word)

bit-low : (h k n : ℕ) → k < h → bit_at (n % 2 ^ h) k ≡ bit_at n k
bit-low h k n fits =
    let width : (h - suc k) + (1 + k) ≡ h = omega arith in
    let narrow : n % 2 ^ h % 2 ^ (1 + k) ≡ n % 2 ^ (1 + k) = ap (λ w. n % 2 ^ w % 2 ^ (1 + k)) (sym width) ∙ mod-mod-pow n (h - suc k) (1 + k) in
    sym (field_of (n % 2 ^ h) 1 k) ∙ ap (λ x. x / 2 ^ k) narrow ∙ field_of n 1 k

pub bit-lower : (k u l : ℕ) → l < 2 ^ 64 → k < 64 → bit_at (joined u l) k ≡ bit_at l k
bit-lower k u l low fits = sym (bit-low 64 k (joined u l) fits) ∙ ap (λ x. bit_at x k) (mod_low u 64 l low)

pub bit-upper : (k u l : ℕ) → l < 2 ^ 64 → bit_at (joined u l) (64 + k) ≡ bit_at u k
bit-upper k u l low = ap (λ x. x % 2) (sym (shr-shr (joined u l) 64 k) ∙ ap (λ x. x / 2 ^ k) (shr_high u 64 l low))

-- one bit anew, in the upper half or in the lower one
pub with-upper : (i x u l : ℕ) (b : Bool) → i < 64 → l < 2 ^ 64 → bit_at x (63 - i) ≡ cond b 1 0 → ((k : ℕ) → k < 64 → k ≢ 63 - i → bit_at x k ≡ bit_at u k)
    → (bit_at (joined x l) (127 - i) ≡ cond b 1 0) × ((k : ℕ) → k < 128 → k ≢ 127 - i → bit_at (joined x l) k ≡ bit_at (joined u l) k)
with-upper i x u l b fits low here others =
    let place : 127 - i ≡ 64 + (63 - i) = omega arith in (
      ap (bit_at (joined x l)) place ∙ bit-upper (63 - i) x l low ∙ here,
      λ k within other. elim (cases_lt k 64) [
        | inl small ↦ bit-lower k x l low small ∙ sym (bit-lower k u l low small)
        | inr large ↦
            let back : k ≡ 64 + (k - 64) = omega arith in
            ap (bit_at (joined x l)) back ∙ bit-upper (k - 64) x l low ∙ others (k - 64) (omega arith) (λ same. other (omega arith))
            ∙ sym (ap (bit_at (joined u l)) back ∙ bit-upper (k - 64) u l low)
      ],
    )

pub with-lower : (i x u l : ℕ) (b : Bool) → i < 64 → l < 2 ^ 64 → x < 2 ^ 64 → bit_at x (63 - i) ≡ cond b 1 0 → ((k : ℕ) → k < 64 → k ≢ 63 - i → bit_at x k ≡ bit_at l k)
    → (bit_at (joined u x) (127 - (64 + i)) ≡ cond b 1 0) × ((k : ℕ) → k < 128 → k ≢ 127 - (64 + i) → bit_at (joined u x) k ≡ bit_at (joined u l) k)
with-lower i x u l b fits low new here others =
    let place : 127 - (64 + i) ≡ 63 - i = omega arith in (
      ap (bit_at (joined u x)) place ∙ bit-lower (63 - i) u x new (omega arith) ∙ here,
      λ k within other. elim (cases_lt k 64) [
        | inl small ↦ bit-lower k u x new small ∙ others k small (λ same. other (omega arith)) ∙ sym (bit-lower k u l low small)
        | inr large ↦
            let back : k ≡ 64 + (k - 64) = omega arith in
            ap (bit_at (joined u x)) back ∙ bit-upper (k - 64) u x new ∙ sym (ap (bit_at (joined u l)) back ∙ bit-upper (k - 64) u l low)
      ],
    )

-- ---- steps: the host part of a sum and of a difference of 128 bits
pub stepped-up : (k n s : ℕ) → k ≤ 128 → (n + s) % 2 ^ 128 % 2 ^ (128 - k) ≡ (n % 2 ^ (128 - k) + s) % 2 ^ (128 - k)
stepped-up k n s h = reduced 128 k (n + s) h ∙ host-first 128 k n s

pub stepped-down : (k n s : ℕ) → k ≤ 128 → s < 2 ^ 128 → (n + (2 ^ 128 - s)) % 2 ^ 128 % 2 ^ (128 - k) ≡ (n % 2 ^ (128 - k) + (2 ^ (128 - k) - s % 2 ^ (128 - k))) % 2 ^ (128 - k)
stepped-down k n s h fits = reduced_down 128 k n s h fits ∙ host-first 128 k n (2 ^ (128 - k) - s % 2 ^ (128 - k))

-- zeros and ones from k on
pub ones-first : (k : ℕ) → k ≤ 128 → joined 18446744073709551615 18446744073709551615 / 2 ^ (128 - k) * 2 ^ (128 - k) ≡ 2 ^ 128 - 1 - (2 ^ (128 - k) - 1)
ones-first k h = omega (arith, shr_split (2 ^ 128 - 1) (128 - k), ones-low 128 k h)

pub zero-mod : (k : ℕ) → 0 % 2 ^ (128 - k) ≡ 0
zero-mod k = omega (arith, pow_pos (128 - k))

pub ones-mod : (k : ℕ) → k ≤ 128 → joined 18446744073709551615 18446744073709551615 % 2 ^ (128 - k) ≡ 2 ^ (128 - k) - 1
ones-mod k h = ones-low 128 k h

pub ruleset halves_step_laws = (stepped-up, stepped-down, zero-mod, ones-mod, ones-first, part_below, pow_pos)

pub ruleset halves_last_laws = (last-halves)
