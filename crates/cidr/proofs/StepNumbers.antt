-- Steps within a network on numbers of w bits, of which the first k are the network's.
use Rattle.std.proofs.Common.{◌≡◌, ℕ, ◌+◌, ◌-◌, ◌*◌, ◌/◌, ◌%◌, ◌^◌, ◌<◌, ◌≤◌, sym, ap, ◌∙◌, arith, bit_and}
use Rattle.std.proofs.Math.Nat.{add-mod-mod, add-mul-mod_self_right}
use Rattle.std.proofs.Math.Pow.{mod-mod-pow}
use Rattle.std.proofs.lemmas.Nat.{and_mask, div-add-mod', mod_below, pow_pos, pow-add, shr_split, shr_below, row_fits}

-- the first and the last bits of the width
rows : (w k : ℕ) → k ≤ w → 2 ^ w ≡ 2 ^ k * 2 ^ (w - k)
rows w k h = ap (λ j. 2 ^ j) (omega arith) ∙ pow-add 2 k (w - k)

row_below : (w k n : ℕ) → k ≤ w → n < 2 ^ w → n / 2 ^ (w - k) < 2 ^ k
row_below w k n h l = shr_below n k (w - k) (rw (pow-add 2 k (w - k), ← rows w k h) l)

-- the last number of a network fits the width
pub last_within : (w k n : ℕ) → k ≤ w → n < 2 ^ w → n / 2 ^ (w - k) * 2 ^ (w - k) + (2 ^ (w - k) - 1) < 2 ^ w
last_within w k n h l =
    let m = 2 ^ (w - k) in
    let row = row_fits (n / m) m (2 ^ k) m (row_below w k n h l) (omega arith) in
    omega (arith, rows w k h, pow_pos (w - k))

-- a host part is no greater than the width leaves room for
pub part_below : (n k : ℕ) → n % 2 ^ k < 2 ^ k
part_below n k = mod_below n (2 ^ k) (pow_pos k)

-- the remainder by 2 ^ w has the same host part
pub reduced : (w k s : ℕ) → k ≤ w → s % 2 ^ w % 2 ^ (w - k) ≡ s % 2 ^ (w - k)
reduced w k s h =
    let width : k + (w - k) ≡ w = omega arith in
    ap (λ x. s % 2 ^ x % 2 ^ (w - k)) (sym width) ∙ mod-mod-pow s k (w - k)

-- the host part of a sum of the width
pub reduced_up : (w k p s : ℕ) → k ≤ w → (p + s % 2 ^ w) % 2 ^ w % 2 ^ (w - k) ≡ (p + s) % 2 ^ (w - k)
reduced_up w k p s h =
    let m = 2 ^ (w - k) in
    reduced w k (p + s % 2 ^ w) h ∙ sym (add-mod-mod p (s % 2 ^ w) m) ∙ ap (λ x. (p + x) % m) (reduced w k s h) ∙ add-mod-mod p s m

-- and of a difference of the width
pub reduced_down : (w k p s : ℕ) → k ≤ w → s < 2 ^ w → (p + (2 ^ w - s)) % 2 ^ w % 2 ^ (w - k) ≡ (p + (2 ^ (w - k) - s % 2 ^ (w - k))) % 2 ^ (w - k)
reduced_down w k p s h l =
    let m = 2 ^ (w - k) in
    let more = 2 ^ k - 1 - s / m in
    let above = row_below w k s h l in
    let below = part_below s (w - k) in
    let count : 2 ^ k ≡ s / m + 1 + more = omega arith in
    let whole : 2 ^ w ≡ s / m * m + m + more * m = rows w k h ∙ ap (λ q. q * m) count ∙ omega arith in
    let split : p + (2 ^ w - s) ≡ p + (m - s % m) + more * m = omega (arith, div-add-mod' s m) in
    reduced w k (p + (2 ^ w - s)) h ∙ ap (λ x. x % m) split ∙ add-mul-mod_self_right (p + (m - s % m)) more m

pub reduced_down_wide : (w k p s : ℕ) → k ≤ w → (p + (2 ^ w - s % 2 ^ w)) % 2 ^ w % 2 ^ (w - k) ≡ (p + (2 ^ (w - k) - s % 2 ^ (w - k))) % 2 ^ (w - k)
reduced_down_wide w k p s h =
    let m = 2 ^ (w - k) in
    reduced_down w k p (s % 2 ^ w) h (part_below s w) ∙ ap (λ x. (p + (m - x)) % m) (reduced w k s h)

-- the lowest 32 bits by their mask
pub low_word : (s : ℕ) → bit_and s 4294967295 ≡ s % 2 ^ 32
low_word s = and_mask s 32

pub ruleset step_laws = (low_word, last_within, part_below, reduced, reduced_up, reduced_down, reduced_down_wide, pow_pos, shr_split)
