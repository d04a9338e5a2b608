-- Networks inside a network, by the steps from its first address to theirs.
use Rattle.std.proofs.Common.{◌≡◌, ℕ, ◌+◌, ◌-◌, ◌*◌, ◌%◌, ◌^◌, ◌<◌, ◌≤◌, Bool, true, false, List, ◌++◌, length, take, drop, refl, sym, ap, ◌∙◌, arith, inl, inr, nat_lt, Option, Some, None, IfSome, MatchOption, Result, Ok, Err, IfOk, length-append, append_assoc, zero-add, take_at, drop_at}
use Rattle.std.proofs.Math.Nat.{mod-eq_of_lt, mul-lt-mul_of_pos_right}
use Rattle.std.proofs.lemmas.Nat.{pow_pos, pow-add}
use Rattle.std.proofs.Math.Pow.{pow_mono}
use Rattle.std.proofs.lemmas.Bool.{le-ltb}
use Rattle.std.specs.Result.{result_ok}
use Rattle.cidr.specs.model.Bits.{bits, number, bit_eq}
use Rattle.cidr.specs.model.Views.{seen}
use Rattle.cidr.specs.model.Host.{Host, first_host, stepped_up, host_part}
use Rattle.cidr.specs.model.Network.{width_of, zeros, first_of, network_from}
use Rattle.cidr.specs.laws.BitLaws.{length-bits, number-bits, bits-zero, bits-cat, bit_eq_Decides}
use Rattle.cidr.specs.declared.errors.NetworkParseError.{NetworkParseError}
use Rattle.cidr.specs.declared.family.Family.{Family}
use Rattle.cidr.specs.declared.family.Family.TheVariants.{Ipv4, Ipv6}
use Rattle.cidr_ext.specs.model.Subnets.{IsSubnetAt, NoSubnetAt}

pub number-zeros : (n : ℕ) → number (zeros n) ≡ 0
number-zeros n = ap number (sym (bits-zero n)) ∙ number-bits n 0 (pow_pos n)

-- a number below 2^j with k zeros behind it has at most j + k bits
pub scaled_fits : (j k i : ℕ) → i < 2 ^ j → i * 2 ^ k < 2 ^ (j + k)
scaled_fits j k i h = rw (pow-add 2 j k) (mul-lt-mul_of_pos_right h (pow_pos k))

pub from_first : (w : ℕ) (p : List Bool) → host_part (first_host w p) ≡ 0
from_first w p = ap number (drop_at p (zeros (w - length p)) (length p) refl) ∙ number-zeros (w - length p)

-- the address that is as many steps behind the first one of a network as the index says
module _ (w n i : ℕ) (p : List Bool) (longer : length p ≤ n) (within : n ≤ w) (h : i < 2 ^ (n - length p)) where
  split : (n - length p) + (w - n) ≡ w - length p
  split = omega arith

  step_fits : i * 2 ^ (w - n) < 2 ^ (w - length p)
  step_fits = rw (sym split) (scaled_fits (n - length p) (w - n) i h)

  behind_bits : bits (w - length p) (i * 2 ^ (w - n)) ≡ bits (n - length p) i ++ zeros (w - n)
  behind_bits =
      ap (λ k. bits k (i * 2 ^ (w - n))) (sym split)
      ∙ ap (bits ((n - length p) + (w - n))) (let e : i * 2 ^ (w - n) ≡ i * 2 ^ (w - n) + 0 = omega arith in e)
      ∙ bits-cat (n - length p) (w - n) i 0 (pow_pos (w - n))
      ∙ ap (λ t. bits (n - length p) i ++ t) (bits-zero (w - n))

  stepped_address : (stepped_up w (first_host w p) (i * 2 ^ (w - n))).address ≡ (p ++ bits (n - length p) i) ++ zeros (w - n)
  stepped_address =
      let left : (host_part (first_host w p) + i * 2 ^ (w - n)) % 2 ^ (w - length p) ≡ i * 2 ^ (w - n) =
      ap (λ x. (x + i * 2 ^ (w - n)) % 2 ^ (w - length p)) (from_first w p)
      ∙ ap (λ x. x % 2 ^ (w - length p)) (zero-add (i * 2 ^ (w - n))) ∙ mod-eq_of_lt step_fits in
      ap (λ x. take (length p) (first_of w p) ++ bits (w - length p) x) left
      ∙ ap (λ t. t ++ bits (w - length p) (i * 2 ^ (w - n))) (take_at p (zeros (w - length p)) (length p) refl)
      ∙ ap (λ t. p ++ t) behind_bits ∙ sym (append_assoc p (bits (n - length p) i) (zeros (w - n)))

-- the network of its first n bits
pub made_of : (family : Family) (q : List Bool) (n : ℕ) → length q ≡ n → n ≤ width_of family
    → network_from family (q ++ zeros (width_of family - n)) n ≡ Ok q
made_of family q n l within =
    let w = width_of family in
    let not_long : nat_lt w n ≡ false = le-ltb w n within in
    let zero : bit_eq (drop n (q ++ zeros (w - n))) (zeros (w - n)) ≡ true = (bit_eq_Decides _ _).1 (drop_at q (zeros (w - n)) n l) in
    rw (not_long, zero, take_at q (zeros (w - n)) n l) refl

-- what `ok` of the network made gives
taken_out : {C E : Type 0} (prefix : C → List Bool) (q : List Bool) (r : Result C E) (o : Option C) (family_of : C → Family) (f : Family)
    → seen prefix r ≡ Ok q → o ≡ result_ok r → IfOk r (λ c. family_of c ≡ f)
    → (fails : Type 0) (P : C → Type 0) → ((c : C) → family_of c ≡ f → prefix c ≡ q → P c) → MatchOption o fails P
taken_out prefix q (Ok c) None family_of f e k same fails P given = absurd (cc)
taken_out prefix q (Err x) o family_of f e k same fails P given = absurd (cc)
taken_out prefix q (Ok c) (Some d) family_of f e k same fails P given =
    let found : d ≡ c = cc in
    let bits_are : prefix c ≡ q = cc in
    rw found (given c same bits_are)

module _ {C : Type 0} (family_of : C → Family) (prefix : C → List Bool) (f : Family) (n : ℕ) where
  -- the network of the first n bits of an address, behind which it has zeros
  pub network_made : (q : List Bool) (g : Family) (a : List Bool) (r : Result C NetworkParseError) (o : Option C)
      → length q ≡ n → n ≤ width_of f → a ≡ q ++ zeros (width_of f - n) → g ≡ f → seen prefix r ≡ network_from g a n
      → IfOk r (λ c. family_of c ≡ g) → o ≡ result_ok r → (fails : Type 0) (P : C → Type 0)
      → ((c : C) → family_of c ≡ f → prefix c ≡ q → P c) → MatchOption o fails P
  network_made q g a r o size within address family made same ok fails P given =
      let value : seen prefix r ≡ Ok q =
      made ∙ ap (λ g. network_from g a n) family ∙ ap (λ x. network_from f x n) address ∙ made_of f q n size within in
      taken_out prefix q r o family_of g value ok same fails P (λ c is bits_are. given c (is ∙ family) bits_are)

pub width_fits : (family : Family) → width_of family ≤ 128
width_fits Ipv4 = omega arith
width_fits Ipv6 = omega arith

-- the step to a network inside
pub step_below : (family : Family) (l n i more behind : ℕ) → l ≤ n → more ≡ n - l → n ≤ width_of family
    → behind ≡ width_of family - n → i < 2 ^ more → i * 2 ^ behind < 2 ^ 128
step_below family l n i more behind longer e within f h =
    let top = width_fits family in
    let scaled = scaled_fits more behind i h in
    let sum : more + behind ≤ 128 = omega arith in
    let whole : 2 ^ (more + behind) ≤ 2 ^ 128 = pow_mono sum in
    omega (arith, scaled, whole)

-- there is one
pub is_there : (w n i : ℕ) (p : List Bool) → length p ≤ n → n ≤ w → i < 2 ^ (n - length p) → ¬ (NoSubnetAt w p n i)
is_there w n i p longer within below (inl short) = omega arith
is_there w n i p longer within below (inr (inl long)) = omega arith
is_there w n i p longer within below (inr (inr past)) = omega arith

pub where_some : {C : Type 0} (o : Option C) (P : Type 0) → P → IfSome o (λ _. P)
where_some None P h = tt
where_some (Some c) P h = h

module _ {C : Type 0} (family_of : C → Family) (prefix : C → List Bool) (f : Family) (p : List Bool) (n i : ℕ) where
  pub subnet_made : (l more behind step : ℕ) (host stepped : Host) (f1 f2 f3 : Family) (a : List Bool)
      (r : Result C NetworkParseError) (o : Option C)
      → l ≡ length p → l ≤ n → more ≡ n - l → n ≤ width_of f → behind ≡ width_of f - n → i < 2 ^ more → step ≡ i * 2 ^ behind
      → f1 ≡ f → host ≡ first_host (width_of f) p → f2 ≡ f1 → stepped ≡ stepped_up (width_of f1) host step
      → f3 ≡ f2 → a ≡ stepped.address → seen prefix r ≡ network_from f3 a n → IfOk r (λ c. family_of c ≡ f3) → o ≡ result_ok r
      → MatchOption o (NoSubnetAt (width_of f) p n i) (λ inner. (family_of inner ≡ f) × IsSubnetAt p n i (prefix inner))
  subnet_made l more behind step host stepped f1 f2 f3 a r o len longer rest within left h s one at two up three by made same ok =
      let below : i < 2 ^ (n - length p) = rw (sym len) (rw (sym rest) h) in
      let family : f3 ≡ f = three ∙ two ∙ one in
      let steps : step ≡ i * 2 ^ (width_of f - n) = s ∙ ap (λ k. i * 2 ^ k) left in
      let whole : stepped ≡ stepped_up (width_of f) (first_host (width_of f) p) (i * 2 ^ (width_of f - n)) =
      up ∙ ap (λ g. stepped_up (width_of g) host step) one ∙ ap (λ x. stepped_up (width_of f) x step) at
      ∙ ap (λ x. stepped_up (width_of f) (first_host (width_of f) p) x) steps in
      let address : a ≡ (p ++ bits (n - length p) i) ++ zeros (width_of f - n) =
      by ∙ ap (λ x. x.address) whole ∙ stepped_address (width_of f) n i p (omega arith) within below in
      let q = p ++ bits (n - length p) i in
      let size : length q ≡ n = omega (arith, length-append p (bits (n - length p) i), length-bits (n - length p) i) in
      network_made family_of prefix f n q f3 a r o size within address family made same ok (NoSubnetAt (width_of f) p n i)
      (λ c. (family_of c ≡ f) × IsSubnetAt p n i (prefix c)) (λ c is bits_are. (is, (ap length bits_are ∙ size, bits_are)))
