-- Walks from one address to another: how long they are, and what stands at their ends.
use Rattle.std.proofs.Common.{◌≡◌, ℕ, suc, ◌+◌, ◌-◌, ◌^◌, ◌<◌, ◌≤◌, Bool, List, [], ◌∷◌, ◌++◌, length, map, take, drop, refl, sym, ap, ap₂, ◌∙◌, subst, arith, Option, Some, length-append, take_at}
use Rattle.std.specs.List.{range_with_len}
use Rattle.std.proofs.lemmas.List.{map-append}
use Rattle.std.proofs.lemmas.List.FromFn.{length-map-range_with_len, map-range_with_len_more}
use Rattle.cidr.specs.model.Bits.{bits, number}
use Rattle.cidr.specs.laws.BitLaws.{number-bits, number-lt}
use Rattle.cidr.specs.model.Network.{width_of}
use Rattle.cidr.specs.model.Host.{Host}
use Rattle.cidr.specs.model.Pair.{Pair, IsPair, first_of_pair, second_of_pair}
use Rattle.cidr.specs.model.Walk.{walk_between, pair_walk, hosts_of, pair_hosts, hosts_left}
use Rattle.cidr.specs.declared.family.Family.{Family}
use Rattle.cidr.proofs.NetworkNumbers.{same_from_number}

pub length-walk_between : (w : ℕ) (p q : List Bool) → length (walk_between w p q) ≡ number q + 1 - number p
length-walk_between w p q = length-map-range_with_len (bits w) (number p) (number q + 1 - number p)

-- a walk that is not empty begins with its first address, and ends with its second
walk-first : (w : ℕ) (p q : List Bool) → length p ≡ w → number p ≤ number q → walk_between w p q ≡ p ∷ map (bits w) (range_with_len (number p + 1) (number q - number p))
walk-first w p q l h =
    let n : number q + 1 - number p ≡ suc (number q - number p) = omega arith in
    let s = same_from_number w (number p) p l refl in
    rw n (ap (λ t. t ∷ map (bits w) (range_with_len (number p + 1) (number q - number p))) s)

walk-second : (w : ℕ) (p q : List Bool) → length q ≡ w → number p ≤ number q → walk_between w p q ≡ map (bits w) (range_with_len (number p) (number q - number p)) ++ q ∷ []
walk-second w p q l h =
    let n : number q + 1 - number p ≡ (number q - number p) + 1 = omega arith in
    let s = same_from_number w (number q) q l refl in
    rw (n, map-range_with_len_more (bits w) (number p) (number q - number p) (number q) (omega arith), s) refl

-- without its first, or its second address
pub walk-after_first : (w : ℕ) (p q : List Bool) → length p ≡ w → length q ≡ w → number p < number q → walk_between w p q ≡ p ∷ walk_between w (bits w (number p + 1)) q
walk-after_first w p q l m h =
    let below : number q < 2 ^ w = rw m at (number-lt q) in
    let fits : number p + 1 < 2 ^ w = omega arith in
    let next : number (bits w (number p + 1)) ≡ number p + 1 = number-bits w (number p + 1) fits in
    let n : number q + 1 - (number p + 1) ≡ number q - number p = omega arith in
    walk-first w p q l (omega arith) ∙ rw (next, n) refl

pub walk-before_second : (w : ℕ) (p q : List Bool) → length p ≡ w → length q ≡ w → number p < number q → walk_between w p q ≡ walk_between w p (bits w (number q - 1)) ++ q ∷ []
walk-before_second w p q l m h =
    let below : number q < 2 ^ w = rw m at (number-lt q) in
    let fits : number q - 1 < 2 ^ w = omega arith in
    let back : number (bits w (number q - 1)) ≡ number q - 1 = number-bits w (number q - 1) fits in
    let n : number q - 1 + 1 - number p ≡ number q - number p = omega arith in
    walk-second w p q m (omega arith) ∙ rw (back, n) refl

-- ---- the hosts at the ends of what is left
-- The pair p of a walk is kept, and now this is left; h is a host of the family of the pair.
pub record IsEnd {P : Type 0} (family : P → Family) (pair : P → Pair) (o : Option P) (p : P)
    (now : List (Family × Host)) (f : Family) (h : Host) : Type 0 where
  pub kept : Some p ≡ o
  pub view : hosts_left family pair o ≡ now
  pub some : 0 < length (pair_walk (family p) (pair p))
  pub is : IsPair (width_of (family p)) (pair p)
  pub same_family : f ≡ family p

module _ {P : Type 0} {family : P → Family} {pair : P → Pair} {o : Option P} {p : P}
    {now : List (Family × Host)} {f : Family} {h : Host} (s : IsEnd family pair o p now f h) where
  whole : pair_hosts (family p) (pair p) ≡ now
  whole = subst (λ (k : Option P). hosts_left family pair k ≡ now) (sym s.kept) s.view

  ordered : number (pair p).first ≤ number (pair p).second
  ordered = omega (arith, s.some, length-walk_between (width_of (family p)) (pair p).first (pair p).second)

  pub lowest_is : h ≡ first_of_pair (pair p) → now ≡ (f, h) ∷ drop 1 now
  lowest_is same_h =
      let e = walk-first (width_of (family p)) (pair p).first (pair p).second s.is.first_width ordered in
      rw (← whole, e, s.same_family, same_h) refl

  pub highest_is : h ≡ second_of_pair (pair p) → now ≡ take (length now - 1) now ++ (f, h) ∷ []
  highest_is same_h =
      let w = width_of (family p) in
      let first = (pair p).first in
      let second = (pair p).second in
      let before = map (bits w) (range_with_len (number first) (number second - number first)) in
      let hosts = hosts_of (family p) (pair p).len before in
      let e = walk-second w first second s.is.second_width ordered in
      let k : now ≡ hosts ++ (f, h) ∷ [] =
      sym whole ∙ ap (hosts_of (family p) (pair p).len) e ∙ rw (map-append, s.same_family, same_h) refl in
      let n : length now - 1 ≡ length hosts = omega (arith, ap length k, length-append hosts ((f, h) ∷ [])) in
      k ∙ ap (λ t. t ++ (f, h) ∷ []) (sym (ap₂ take n k ∙ take_at hosts ((f, h) ∷ []) (length hosts) refl))
