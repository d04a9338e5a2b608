-- Octets in a row and the bits of their number, as many as there are.
use Rattle.std.proofs.Common.{◌≡◌, ℕ, zero, suc, ◌+◌, ◌*◌, ◌/◌, ◌%◌, ◌^◌, ◌<◌, Bool, List, [], ◌∷◌, length, get_or, refl, sym, ap, ap₂, ◌∙◌, arith}
use Rattle.std.proofs.Math.Nat.{pow-succ'}
use Rattle.std.proofs.lemmas.Nat.{pow-add}
use Rattle.std.proofs.NetLemmas.Arrays.{sixteen_items}
use Rattle.std.specs.Int.{w128, byte_at, bytes_high_first, from_be_bytes, to_be_bytes}
use Rattle.cidr.specs.model.Bits.{bits, number}
use Rattle.cidr.specs.laws.BitLaws.{bits-number}
use Rattle.cidr.specs.model.Address.{parts_of, octet_bits}
use Rattle.cidr.proofs.PartLaws.{FitAll, all_fit, joined_number, bits-parts, parts_of-bits, parts_of-none}

octet_power : (k : ℕ) → 256 ^ k ≡ 2 ^ (8 * k)
octet_power zero = refl
octet_power (suc k) =
    let later = octet_power k in
    let places : 8 * suc k ≡ 8 + 8 * k = omega arith in
    pow-succ' 256 k ∙ rw (places, pow-add 2 8 (8 * k), later) refl

octet_at : (k n : ℕ) → n / 2 ^ (8 * k) % 2 ^ 8 ≡ byte_at k n
octet_at zero n = omega arith
octet_at (suc k) n = ap (λ p. n / p % 256) (sym (octet_power (suc k)))

-- the highest octet first
pub octets_of-number : (k n : ℕ) → parts_of 8 k (bits (8 * k) n) ≡ bytes_high_first k n
octets_of-number zero n = parts_of-none 8 (bits 0 n)
octets_of-number (suc k) n =
    let places : 8 * suc k ≡ 8 + 8 * k = omega arith in
    ap (λ w. parts_of 8 (suc k) (bits w n)) places ∙ parts_of-bits 8 k n ∙ ap₂ (λ x t. x ∷ t) (octet_at k n) (octets_of-number k n)

-- and of an address
pub octets_of-address : (k : ℕ) (a : List Bool) → length a ≡ 8 * k → parts_of 8 k a ≡ bytes_high_first k (number a)
octets_of-address k a e = ap (parts_of 8 k) (sym (bits-number a) ∙ ap (λ w. bits w (number a)) e) ∙ octets_of-number k (number a)

pub sixteen_octets : (a : List Bool) → length a ≡ 128 → parts_of 8 16 a ≡ to_be_bytes w128 (number a)
sixteen_octets a e = octets_of-address 16 a e

pub octets_fit : (octets : List ℕ) → ((i : ℕ) → get_or octets i 0 < 256) → FitAll 8 octets
octets_fit octets h = all_fit 8 octets h

sixteen_joined : (a b c d e f g h i j k l m n o p : ℕ)
    → from_be_bytes w128 (a ∷ b ∷ c ∷ d ∷ e ∷ f ∷ g ∷ h ∷ i ∷ j ∷ k ∷ l ∷ m ∷ n ∷ o ∷ p ∷ []) ≡ joined_number 8 0 (a ∷ b ∷ c ∷ d ∷ e ∷ f ∷ g ∷ h ∷ i ∷ j ∷ k ∷ l ∷ m ∷ n ∷ o ∷ p ∷ [])
sixteen_joined a b c d e f g h i j k l m n o p = omega arith

pub bits-sixteen_octets : (octets : List ℕ) → length octets ≡ 16 → ((i : ℕ) → get_or octets i 0 < 256) → bits 128 (from_be_bytes w128 octets) ≡ octet_bits octets
bits-sixteen_octets octets many fits =
    let number : from_be_bytes w128 octets ≡ joined_number 8 0 octets = rw (sixteen_items octets many) (sixteen_joined _ _ _ _ _ _ _ _ _ _ _ _ _ _ _ _) in
    let width : 8 * length octets ≡ 128 = omega arith in
    ap (bits 128) number ∙ (rw width at (bits-parts 8 octets (octets_fit octets fits)))

pub ruleset sixteen_laws = (sixteen_octets)
