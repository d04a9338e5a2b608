-- The number that groups of sixteen bits write.
use Rattle.std.proofs.Common.{◌≡◌, ℕ, ◌+◌, ◌-◌, ◌*◌, ◌%◌, ◌^◌, ◌<◌, ◌≤◌, Bool, List, [], ◌∷◌, ◌++◌, length, replicate, sym, ◌∙◌, subst, arith, append_assoc, length-append, lit≤}
use Rattle.std.proofs.Math.Nat.{pow-le-pow_right, mod-eq_of_lt, mul_assoc}
use Rattle.std.proofs.lemmas.Nat.{pow-add, shl_below}
use Rattle.std.proofs.lemmas.List.{length-replicate}
use Rattle.cidr.specs.model.Bits.{bits, number}
use Rattle.cidr.specs.laws.BitLaws.{bits-cat, bits-number, number-lt}
use Rattle.cidr.specs.model.Address.{group_bits, octet_bits}
use Rattle.cidr.specs.internal.Reading.{WritesParts}
use Rattle.cidr.proofs.PartLaws.{writes-append, writes-zeros, writes-few}

-- four octets as two groups
octet_pair : (i j : ℕ) → j < 256 → bits 16 (i * 256 + j) ≡ bits 8 i ++ bits 8 j
octet_pair i j h = bits-cat 8 8 i j h

pub groups-octets : (i j k l : ℕ) → j < 256 → l < 256 → group_bits ((i * 256 + j) ∷ (k * 256 + l) ∷ []) ≡ octet_bits (i ∷ j ∷ k ∷ l ∷ [])
groups-octets i j k l hj hl = rw (octet_pair i j hj, octet_pair k l hl) (simp append_assoc)

-- the groups of an IPv4 address
pub groups-address : (a : List Bool) (g h : ℕ) → length a ≡ 32 → group_bits (g ∷ h ∷ []) ≡ a → WritesParts 16 (g ∷ h ∷ []) (number a)
groups-address a g h e same = record {
  fits = rw e at (number-lt a);
  value = (rw e at (bits-number a)) ∙ sym same;
}

pub shifted : (gs : List ℕ) (n k s : ℕ) → WritesParts 16 gs n → length gs ≤ k → 16 * k + s ≤ 128 → n * 2 ^ s % 2 ^ 128 ≡ n * 2 ^ s
shifted gs n k s g h room =
    let low = shl_below n (16 * k) s (writes-few 16 gs n k g h) in
    let most : 2 ^ (16 * k + s) ≤ 2 ^ 128 = pow-le-pow_right (lit≤ tt) room in
    mod-eq_of_lt (omega arith)

-- groups, zero groups in the middle, and groups
filled : (head tail : List ℕ) (m n z : ℕ) → WritesParts 16 head m → WritesParts 16 tail n → WritesParts 16 (head ++ replicate z 0 ++ tail) (m * 2 ^ (16 * z + 16 * length tail) + n)
filled head tail m n z g h =
    let t = length tail in
    let zeros : length (replicate {A = ℕ} z 0) ≡ z = length-replicate z 0 in
    let front : WritesParts 16 (head ++ replicate z 0) (m * 2 ^ (16 * z)) =
    let shift : m * 2 ^ (16 * length (replicate {A = ℕ} z 0)) + 0 ≡ m * 2 ^ (16 * z) = rw zeros (omega arith) in
    subst (WritesParts 16 (head ++ replicate z 0)) shift (writes-append 16 head (replicate z 0) m 0 g (writes-zeros 16 z)) in
    let sum : m * 2 ^ (16 * z) * 2 ^ (16 * t) + n ≡ m * 2 ^ (16 * z + 16 * t) + n = rw (pow-add 2 (16 * z) (16 * t)) (omega (arith, mul_assoc m (2 ^ (16 * z)) (2 ^ (16 * t)))) in
    subst (WritesParts 16 (head ++ replicate z 0 ++ tail)) sum (writes-append 16 (head ++ replicate z 0) tail (m * 2 ^ (16 * z)) n front h)

elided_length : (head tail : List ℕ) → length head + length tail ≤ 7 → 16 * length (head ++ replicate (8 - length head - length tail) 0 ++ tail) ≡ 128
elided_length head tail room =
    let z = 8 - length head - length tail in
    omega (arith, length-append (head ++ replicate z 0) tail, length-append head (replicate z 0), length-replicate {A = ℕ} z 0)

-- the head is moved up by seven places at most, and then by one
pub elided : (head tail : List ℕ) (m n h : ℕ) → WritesParts 16 head m → WritesParts 16 tail n → length head ≡ h → h + length tail ≤ 7
    → WritesParts 16 (head ++ replicate (8 - length head - length tail) 0 ++ tail) (m * 2 ^ (16 * (7 - h)) % 2 ^ 128 * 2 ^ 16 % 2 ^ 128 + n)
elided head tail m n h g k len room =
    let s = 16 * (7 - h) in
    let z = 8 - length head - length tail in
    let first = shifted head m h s g (omega arith) (omega arith) in
    let twice : m * 2 ^ s * 2 ^ 16 ≡ m * 2 ^ (s + 16) = rw (pow-add 2 s 16) (omega (arith, mul_assoc m (2 ^ s) (2 ^ 16))) in
    let second = shifted head m h (s + 16) g (omega arith) (omega arith) in
    let places : s + 16 ≡ 16 * z + 16 * length tail = omega arith in
    rw (first, twice, second, places) (filled head tail m n z g k)

pub elided_number : (head tail : List ℕ) (m n h : ℕ) → WritesParts 16 head m → WritesParts 16 tail n → length head ≡ h → h + length tail ≤ 7
    → bits 128 (m * 2 ^ (16 * (7 - h)) % 2 ^ 128 * 2 ^ 16 % 2 ^ 128 + n) ≡ group_bits (head ++ replicate (8 - length head - length tail) 0 ++ tail)
elided_number head tail m n h g k len room =
    let whole = elided head tail m n h g k len room in
    let eight = elided_length head tail (omega arith) in
    rw eight at whole.value

pub elided_fits : (head tail : List ℕ) (m n h : ℕ) → WritesParts 16 head m → WritesParts 16 tail n → length head ≡ h → h + length tail ≤ 7
    → m * 2 ^ (16 * (7 - h)) % 2 ^ 128 * 2 ^ 16 % 2 ^ 128 + n < 2 ^ 128
elided_fits head tail m n h g k len room =
    let whole = elided head tail m n h g k len room in
    let eight = elided_length head tail (omega arith) in
    rw eight at whole.fits

-- eight groups
pub eight_number : (groups : List ℕ) (n : ℕ) → WritesParts 16 groups n → length groups ≡ 8 → bits 128 n ≡ group_bits groups
eight_number groups n g eight =
    let width : 16 * length groups ≡ 128 = omega arith in
    rw width at g.value
