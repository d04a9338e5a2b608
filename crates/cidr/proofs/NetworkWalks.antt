-- The walk of a network: from its first address to its last.
use Rattle.std.proofs.Common.{◌≡◌, ℕ, ◌+◌, ◌-◌, ◌*◌, ◌/◌, ◌^◌, ◌<◌, ◌≤◌, ◌↔◌, Bool, true, false, List, ◌++◌, length, take, refl, sym, ap, ◌∙◌, arith, length-append, take_at}
use Rattle.std.proofs.lemmas.List.{length-replicate}
use Rattle.std.proofs.lemmas.List.FromFn.{get_or-map-range_with_len}
use Rattle.std.proofs.lemmas.Nat.{div-add-mod', mod_below, pow_pos}
use Rattle.std.specs.List.{Contains}
use Rattle.cidr.specs.model.Bits.{bits, number}
use Rattle.cidr.specs.laws.BitLaws.{length-bits, number-append}
use Rattle.cidr.specs.model.Network.{zeros, ones, first_of, last_of, BeginsWith}
use Rattle.cidr.specs.model.Pair.{IsPair}
use Rattle.cidr.specs.model.Walk.{walk_between, network_pair}
use Rattle.cidr.proofs.NetworkNumbers.{number-parts, number-zeros, number-ones, same_from_number}
use Rattle.cidr.specs.laws.NetworkLaws.{length-first_of}
use Rattle.cidr.proofs.WalkLaws.{length-walk_between}
use Rattle.cidr.proofs.PairNumbers.{shared_between}

length-last_of : (w : ℕ) (p : List Bool) → length p ≤ w → length (last_of w p) ≡ w
length-last_of w p h = omega (arith, length-append p (ones (w - length p)), length-replicate (w - length p) true)

pub IsPair-network : (w : ℕ) (p : List Bool) → length p ≤ w → IsPair w (network_pair w p)
IsPair-network w p h = record {
  first_width = length-first_of w p h;
  second_width = length-last_of w p h;
  fits = h;
  shared = take_at p (zeros (w - length p)) (length p) refl ∙ sym (take_at p (ones (w - length p)) (length p) refl);
}

number-first_of : (w : ℕ) (p : List Bool) → number (first_of w p) ≡ number p * 2 ^ (w - length p)
number-first_of w p =
    let k = w - length p in
    let whole : number (p ++ zeros k) ≡ number p * 2 ^ k + number (zeros k) = number-append p (zeros k) ∙ ap (λ n. number p * 2 ^ n + number (zeros k)) (length-replicate k false) in
    omega (arith, number-zeros k)

number-last_of : (w : ℕ) (p : List Bool) → number (last_of w p) ≡ number p * 2 ^ (w - length p) + (2 ^ (w - length p) - 1)
number-last_of w p =
    let k = w - length p in
    number-append p (ones k) ∙ ap (λ n. number p * 2 ^ n + number (ones k)) (length-replicate k true) ∙ ap (λ n. number p * 2 ^ k + n) (number-ones k)

-- what stands in a walk lies between its ends
pub between : (w : ℕ) (p q a : List Bool) → Contains (walk_between w p q) a → (n : ℕ) × (a ≡ bits w n) × (number p ≤ n) × (n ≤ number q)
between w p q a (i, in_walk, at) =
    let l = length-walk_between w p q in
    let low : i < number q + 1 - number p = omega arith in
    let value = get_or-map-range_with_len (bits w) (number p) (number q + 1 - number p) i (number p + i) a low refl in
    (number p + i, sym at ∙ value, omega arith, omega arith)

pub stands_between : (w : ℕ) (p q a : List Bool) → length a ≡ w → number p ≤ number a → number a ≤ number q → Contains (walk_between w p q) a
stands_between w p q a e low high =
    let i = number a - number p in
    let l = length-walk_between w p q in
    let within : i < number q + 1 - number p = omega arith in
    let value = get_or-map-range_with_len (bits w) (number p) (number q + 1 - number p) i (number a) a within (omega arith) in
    (i, omega arith, value ∙ same_from_number w (number a) a e refl)

-- it has exactly the addresses that begin with the network's bits
pub network_walk-exact : (w : ℕ) (p a : List Bool) → length p ≤ w → Contains (walk_between w (first_of w p) (last_of w p)) a ↔ ((length a ≡ w) × BeginsWith a p)
network_walk-exact w p a h =
    let first = first_of w p in
    let last = last_of w p in
    let is = IsPair-network w p h in
    let k = w - length p in (
      λ stands.
          let (n, same, low, high) = between w first last a stands in
          let head = shared_between w (length p) n first last h is.first_width is.second_width is.shared low high in
          (ap length same ∙ length-bits w n, ap (take (length p)) same ∙ head ∙ take_at p (zeros k) (length p) refl),
      λ (e, begins).
          let front : number p ≡ number a / 2 ^ k = sym (ap number begins) ∙ (number-parts w (length p) a h e).0 in
          let whole = div-add-mod' (number a) (2 ^ k) in
          let rest = mod_below (number a) (2 ^ k) (pow_pos k) in
          let product : number p * 2 ^ k ≡ number a / 2 ^ k * 2 ^ k = ap (λ n. n * 2 ^ k) front in
          stands_between w first last a e (omega (arith, number-first_of w p)) (omega (arith, number-last_of w p)),
    )

pub ruleset network_walk_laws = (IsPair-network, network_walk-exact)
