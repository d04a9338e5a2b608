-- Hosts by the numbers of their addresses, over any width.
use Rattle.std.proofs.Common.{◌≡◌, ℕ, ◌+◌, ◌-◌, ◌*◌, ◌/◌, ◌%◌, ◌^◌, ◌<◌, ◌≤◌, Bool, List, ◌++◌, length, take, drop, refl, sym, ap, ◌∙◌, arith, take_at, drop_at}
use Rattle.std.proofs.lemmas.Nat.{pow_pos}
use Rattle.cidr.specs.model.Bits.{bits, number}
use Rattle.cidr.specs.laws.BitLaws.{bits-cat, bits-zero, bits-ones, length-bits}
use Rattle.cidr.specs.model.Network.{zeros, first_of, last_of}
use Rattle.cidr.specs.laws.NetworkLaws.{length-take-within}
use Rattle.cidr.proofs.NetworkNumbers.{number-parts, same_from_number}
use Rattle.cidr.proofs.StepNumbers.{part_below}

-- the number of the first k bits, and then another part
pub bits-with_part : (w k n : ℕ) (a : List Bool) → k ≤ w → length a ≡ w → n < 2 ^ (w - k) → bits w (number a / 2 ^ (w - k) * 2 ^ (w - k) + n) ≡ take k a ++ bits (w - k) n
bits-with_part w k n a h e l =
    let width : k + (w - k) ≡ w = omega arith in
    let la = length-take-within w k a h e in
    let front : bits k (number a / 2 ^ (w - k)) ≡ take k a = ap (bits k) (sym (number-parts w k a h e).0) ∙ same_from_number k _ (take k a) la refl in
    ap (λ m. bits m (number a / 2 ^ (w - k) * 2 ^ (w - k) + n)) (sym width) ∙ bits-cat k (w - k) (number a / 2 ^ (w - k)) n l ∙ ap (λ t. t ++ bits (w - k) n) front

pub bits-first : (w k : ℕ) (a : List Bool) → k ≤ w → length a ≡ w → bits w (number a / 2 ^ (w - k) * 2 ^ (w - k)) ≡ first_of w (take k a)
bits-first w k a h e =
    let l = length-take-within w k a h e in
    let plus_none : number a / 2 ^ (w - k) * 2 ^ (w - k) ≡ number a / 2 ^ (w - k) * 2 ^ (w - k) + 0 = omega arith in
    ap (bits w) plus_none ∙ bits-with_part w k 0 a h e (pow_pos (w - k)) ∙ rw (l, bits-zero (w - k)) refl

pub bits-last_of : (w k : ℕ) (a : List Bool) → k ≤ w → length a ≡ w → bits w (number a / 2 ^ (w - k) * 2 ^ (w - k) + (2 ^ (w - k) - 1)) ≡ last_of w (take k a)
bits-last_of w k a h e =
    let l = length-take-within w k a h e in
    bits-with_part w k (2 ^ (w - k) - 1) a h e (omega (arith, pow_pos (w - k))) ∙ rw (l, bits-ones (w - k)) refl

pub number-host_part : (w k : ℕ) (a : List Bool) → k ≤ w → length a ≡ w → number (drop k a) ≡ number a % 2 ^ (w - k)
number-host_part w k a h e = (number-parts w k a h e).1

-- the network's part of its first address
pub take-first : (w k : ℕ) (a : List Bool) → k ≤ w → length a ≡ w → take k (bits w (number a / 2 ^ (w - k) * 2 ^ (w - k))) ≡ take k a
take-first w k a h e =
    ap (take k) (bits-first w k a h e) ∙ take_at (take k a) (zeros (w - length (take k a))) k (length-take-within w k a h e)

pub drop-first : (w k : ℕ) (a : List Bool) → k ≤ w → length a ≡ w → drop k (bits w (number a / 2 ^ (w - k) * 2 ^ (w - k))) ≡ zeros (w - k)
drop-first w k a h e =
    let l = length-take-within w k a h e in
    ap (drop k) (bits-first w k a h e) ∙ drop_at (take k a) (zeros (w - length (take k a))) k l ∙ ap (λ n. zeros (w - n)) l

pub ruleset host_number_laws = (bits-with_part, bits-first, bits-last_of, number-host_part, take-first, drop-first, length-bits, length-take-within, part_below)
