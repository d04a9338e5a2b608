-- Pairs by the numbers of their addresses, over any width.
use Rattle.std.proofs.Common.{◌≡◌, ◌≢◌, ℕ, ◌+◌, ◌-◌, ◌*◌, ◌/◌, ◌^◌, ◌<◌, ◌≤◌, Bool, true, false, List, length, take, ◌==◌, sym, ap, ap₂, ◌∙◌, arith, IsTrue, ◌↔◌, nat_lt}
use Rattle.std.proofs.Math.Nat.{div-mul-le_self}
use Rattle.std.proofs.lemmas.Nat.{le-div, pow_pos}
use Rattle.std.proofs.lemmas.Bool.Decides.{nat_tests}
use Rattle.std.specs.Ordering.{nat_cmp, is_lt}
use Rattle.cidr.specs.model.Bits.{bits, number, bit_cmp, bit_eq}
use Rattle.cidr.specs.laws.BitLaws.{bit_eq_Decides, bit_eq_ties, bit_cmp-numbers, length-bits, number-bits, number-lt}
use Rattle.cidr.specs.model.Host.{host_of, host_part, host_count, stepped_up, stepped_down}
use Rattle.cidr.specs.model.Pair.{IsPair}
use Rattle.cidr.specs.model.Walk.{walk_between, LosesFirst, LosesLast}
use Rattle.cidr.specs.laws.NetworkLaws.{length-take-within}
use Rattle.cidr.proofs.NetworkNumbers.{number-parts}
use Rattle.cidr.proofs.HostSteps.{stays_up, stays_down}
use Rattle.cidr.proofs.WalkLaws.{length-walk_between, walk-after_first, walk-before_second}

bit_eq-numbers : (p q : List Bool) → length p ≡ length q → bit_eq p q ≡ (number p == number q)
bit_eq-numbers p q e = bit_eq_ties p q ∙ rw (bit_cmp-numbers p q e) (grind (arith, nat_tests))

-- the test whether both begin with the same bits, on the numbers
pub shared-test : (w k : ℕ) (a b : List Bool) → k ≤ w → length a ≡ w → length b ≡ w → bit_eq (take k a) (take k b) ≡ (number a / 2 ^ (w - k) == number b / 2 ^ (w - k))
shared-test w k a b h e f =
    bit_eq-numbers (take k a) (take k b) (length-take-within w k a h e ∙ sym (length-take-within w k b h f)) ∙ ap₂ (λ x y. x == y) (number-parts w k a h e).0 (number-parts w k b h f).0

pub shared-bits : (w k : ℕ) (a b : List Bool) → k ≤ w → length a ≡ w → length b ≡ w → number a / 2 ^ (w - k) ≡ number b / 2 ^ (w - k) → take k a ≡ take k b
shared-bits w k a b h e f same = (bit_eq_Decides (take k a) (take k b)).0 (shared-test w k a b h e f ∙ grind (arith, nat_tests))

div_le : (m n k : ℕ) → 0 < k → m ≤ n → m / k ≤ n / k
div_le m n k pos h =
    let whole : m / k * k ≤ n = omega (arith, div-mul-le_self m k) in
    le-div (m / k) n k pos whole

-- what lies between two addresses of a network begins with the same bits
pub shared_between : (w k n : ℕ) (a b : List Bool) → k ≤ w → length a ≡ w → length b ≡ w → take k a ≡ take k b → number a ≤ n → n ≤ number b → take k (bits w n) ≡ take k a
shared_between w k n a b h e f same low high =
    let below : number b < 2 ^ w = rw f at (number-lt b) in
    let value : number (bits w n) ≡ n = number-bits w n (omega arith) in
    let heads : number a / 2 ^ (w - k) ≡ number b / 2 ^ (w - k) = sym (number-parts w k a h e).0 ∙ ap number same ∙ (number-parts w k b h f).0 in
    let up : number a / 2 ^ (w - k) ≤ n / 2 ^ (w - k) = div_le (number a) n (2 ^ (w - k)) (pow_pos (w - k)) low in
    let down : n / 2 ^ (w - k) ≤ number b / 2 ^ (w - k) = div_le n (number b) (2 ^ (w - k)) (pow_pos (w - k)) high in
    let squeezed : n / 2 ^ (w - k) ≡ number a / 2 ^ (w - k) = omega arith in
    shared-bits w k (bits w n) a h (length-bits w n) e (ap (λ x. x / 2 ^ (w - k)) value ∙ squeezed)

-- ---- a step in the network of length 0 goes to the next of all addresses
pub next_address : (w : ℕ) (a : List Bool) → length a ≡ w → number a + 1 < 2 ^ w → (stepped_up w (host_of a 0) 1).address ≡ bits w (number a + 1)
next_address w a e h =
    let whole : w - 0 ≡ w = omega arith in
    let low : host_part (host_of a 0) + 1 < host_count w (host_of a 0) = rw whole h in
    ap (λ x. x.address) (stays_up w 1 (host_of a 0) low) ∙ ap (λ n. bits n (number a + 1)) whole

pub address_before : (w : ℕ) (a : List Bool) → length a ≡ w → 1 ≤ number a → (stepped_down w (host_of a 0) 1).address ≡ bits w (number a - 1)
address_before w a e h =
    let whole : w - 0 ≡ w = omega arith in
    ap (λ x. x.address) (stays_down w 1 (host_of a 0) (e, omega arith) h) ∙ ap (λ n. bits n (number a - 1)) whole

-- ---- the pair that is left when an end is dropped, and its walk
module _ (w k : ℕ) (a b : List Bool) (is : IsPair w (record { first = a; second = b; len = k })) where
  order : bit_cmp a b ≡ nat_cmp (number a) (number b)
  order = bit_cmp-numbers a b (is.first_width ∙ sym is.second_width)

  below : is_lt (bit_cmp a b) ≡ true → number a < number b
  below h = let less : is_lt (nat_cmp (number a) (number b)) ≡ true = ap is_lt (sym order) ∙ h in grind (arith, nat_tests)

  fits_width : number b < 2 ^ w
  fits_width = rw is.second_width at (number-lt b)

  -- there are two addresses or more where the first is below the second
  two_or_more : is_lt (bit_cmp a b) ≡ true → 2 ≤ length (walk_between w a b)
  two_or_more h = omega (arith, below h, length-walk_between w a b)

  below_from_two : 2 ≤ length (walk_between w a b) → is_lt (bit_cmp a b) ≡ true
  below_from_two h =
      let less : number a < number b = omega (arith, h, length-walk_between w a b) in
      ap is_lt order ∙ grind (arith, nat_tests)

  -- the same where both addresses and the test of their order have names of their own
  module _ (c d : List Bool) (e : c ≡ a) (f : d ≡ b) (more : Bool) (test : more ≡ is_lt (bit_cmp c d)) where
    tested : more ≡ is_lt (bit_cmp a b)
    tested = rw (e, f) at test

    pub tells_more : IsTrue more ↔ (2 ≤ length (walk_between w a b))
    tells_more = (λ yes. two_or_more (sym tested ∙ yes), λ two. tested ∙ below_from_two two)

    module _ (yes : more ≡ true) (x : List Bool) where
      less : number a < number b
      less = below (sym tested ∙ yes)

      after : x ≡ (stepped_up w (host_of c 0) 1).address → x ≡ bits w (number a + 1)
      after h = (rw e at h) ∙ next_address w a is.first_width (omega (arith, less, fits_width))

      before : x ≡ (stepped_down w (host_of d 0) 1).address → x ≡ bits w (number b - 1)
      before h = (rw f at h) ∙ address_before w b is.second_width (omega (arith, less))

      pub pair_after_first : x ≡ (stepped_up w (host_of c 0) 1).address → IsPair w (record { first = x; second = b; len = k })
      pair_after_first h =
          let same = after h in
          let lower = less in
          let head = shared_between w k (number a + 1) a b is.fits is.first_width is.second_width is.shared (omega arith) (omega arith) in
          record {
            first_width = ap length same ∙ length-bits w (number a + 1);
            second_width = is.second_width;
            fits = is.fits;
            shared = ap (take k) same ∙ head ∙ is.shared;
          }

      pub pair_before_second : x ≡ (stepped_down w (host_of d 0) 1).address → IsPair w (record { first = a; second = x; len = k })
      pair_before_second h =
          let same = before h in
          let lower = less in
          let head = shared_between w k (number b - 1) a b is.fits is.first_width is.second_width is.shared (omega arith) (omega arith) in
          record {
            first_width = is.first_width;
            second_width = ap length same ∙ length-bits w (number b - 1);
            fits = is.fits;
            shared = sym head ∙ ap (take k) (sym same);
          }

      pub loses_first : x ≡ (stepped_up w (host_of c 0) 1).address → LosesFirst true (walk_between w a b) (walk_between w x b)
      loses_first h = let lower = less in (a, rw (after h) (walk-after_first w a b is.first_width is.second_width (omega arith)))

      pub loses_second : x ≡ (stepped_down w (host_of d 0) 1).address → LosesLast true (walk_between w a b) (walk_between w a x)
      loses_second h = let lower = less in (b, rw (before h) (walk-before_second w a b is.first_width is.second_width (omega arith)))

pub shared_yes : (w k : ℕ) (a b : List Bool) → k ≤ w → length a ≡ w → length b ≡ w → number a / 2 ^ (w - k) ≡ number b / 2 ^ (w - k) → bit_eq (take k a) (take k b) ≡ true
shared_yes w k a b h e f same = shared-test w k a b h e f ∙ grind (arith, nat_tests)

pub shared_no : (w k : ℕ) (a b : List Bool) → k ≤ w → length a ≡ w → length b ≡ w → number a / 2 ^ (w - k) ≢ number b / 2 ^ (w - k) → bit_eq (take k a) (take k b) ≡ false
shared_no w k a b h e f other = shared-test w k a b h e f ∙ grind (arith, nat_tests)

pub ruleset shared_laws = (shared_yes, shared_no)

pub ruleset walk_count_laws = (length-walk_between)

-- the test of the order, on the numbers
pub below_test : (a b : List Bool) → length a ≡ length b → is_lt (bit_cmp a b) ≡ nat_lt (number a) (number b)
below_test a b e = ap is_lt (bit_cmp-numbers a b e) ∙ grind (arith, nat_tests)

pub below_yes : (a b : List Bool) → length a ≡ length b → number a < number b → is_lt (bit_cmp a b) ≡ true
below_yes a b e h = ap is_lt (bit_cmp-numbers a b e) ∙ grind (arith, nat_tests)

pub below_no : (a b : List Bool) → length a ≡ length b → number b ≤ number a → is_lt (bit_cmp a b) ≡ false
below_no a b e h = ap is_lt (bit_cmp-numbers a b e) ∙ grind (arith, nat_tests)

pub ruleset below_laws = (below_test, below_yes, below_no)
