-- The length of the longest list that begins both of two lists of bits.
use Rattle.std.proofs.Common.{◌≡◌, ◌≢◌, ◌↔◌, ℕ, suc, ◌+◌, ◌-◌, ◌/◌, ◌^◌, ◌≤◌, min, Bool, true, false, List, [], ◌∷◌, length, get_or, take, drop, refl, sym, ap, ◌∙◌, arith, inl, inr, ◌++◌, take_at, length-take, length-take-le, length-append}
use Rattle.std.proofs.lemmas.Bool.{cases_lt, true≢false, false≢true}
use Rattle.std.proofs.lemmas.List.{take-take, take_all}
use Rattle.cidr.specs.model.Bits.{number}
use Rattle.cidr.specs.model.BitString.{IsSharedLength}
use Rattle.cidr.specs.model.Network.{zeros, first_of, BeginsWith}
use Rattle.cidr.specs.laws.NetworkLaws.{length-take-within}
use Rattle.cidr.proofs.NetworkNumbers.{number-parts}
use Rattle.cidr.proofs.PairNumbers.{shared-bits}
use Rattle.cidr.proofs.Holding.{not_longer, begins-begins}

pub begins_take : (n : ℕ) (a : List Bool) → BeginsWith a (take n a)
begins_take n a = elim (cases_lt (length a) n) [
  | inl short ↦ let all = take_all n a (omega arith) in rw all (take_all (length a) a (omega arith))
  | inr within ↦ ap (λ k. take k a) (length-take-le n a within)
]

-- of two addresses, by their numbers
pub shared_by_numbers : (w n : ℕ) (a b : List Bool) → length a ≡ w → length b ≡ w → n ≤ w
    → ((k : ℕ) → k ≤ w → (k ≤ n) ↔ (number a / 2 ^ (w - k) ≡ number b / 2 ^ (w - k))) → IsSharedLength a b n
shared_by_numbers w n a b e f h same =
    let l = length-take-within w n a h e in
    let front = shared-bits w n a b h e f ((same n h).0 (omega arith)) in
    record {
      shared = (take n a, l, ap (λ k. take k a) l, ap (λ k. take k b) l ∙ sym front);
      longest = λ s one other.
          let within : length s ≤ w = omega (arith, not_longer s a one) in
          (same (length s) within).1 (sym (number-parts w (length s) a within e).0 ∙ ap number (one ∙ sym other)
          ∙ (number-parts w (length s) b within f).0);
    }

-- of their first bits
pub shared_of_first : (n m s : ℕ) (a b : List Bool) → n ≤ length a → m ≤ length b → IsSharedLength a b s
    → IsSharedLength (take n a) (take m b) (min (min n m) s)
shared_of_first n m s a b ha hb is =
    let (t, long, one, other) = is.shared in
    let r = min (min n m) s in
    let size : length (take r t) ≡ r = omega (arith, length-take r t) in
    let begins : (k : ℕ) (c : List Bool) → r ≤ k → BeginsWith c t → BeginsWith (take k c) (take r t) =
    λ k c within h. ap (λ j. take j (take k c)) size ∙ take-take r k c within ∙ sym (take-take r (length t) c (omega arith))
    ∙ ap (take r) h in
    record {
      shared = (take r t, size, begins n a (omega arith) one, begins m b (omega arith) other);
      longest = λ q first second.
          let all = is.longest q (begins-begins a (take n a) q (begins_take n a) first)
          (begins-begins b (take m b) q (begins_take m b) second) in
          omega (arith, not_longer q (take n a) first, length-take n a, not_longer q (take m b) second, length-take m b);
    }

-- of two networks, by their first addresses
pub networks_share : (w n s : ℕ) (p q a b : List Bool) → a ≡ first_of w p → b ≡ first_of w q → IsSharedLength a b s
    → n ≡ min (min (length p) (length q)) s → IsSharedLength p q n
networks_share w n s p q a b first second is e =
    let within : (t : List Bool) → length t ≤ length (first_of w t) = λ t. omega (arith, length-append t (zeros (w - length t))) in
    let shown : (t : List Bool) → take (length t) (first_of w t) ≡ t = λ t. take_at t (zeros (w - length t)) (length t) refl in
    let all = shared_of_first (length p) (length q) s (first_of w p) (first_of w q) (within p) (within q) (rw (first, second) at is) in
    rw e (rw (shown p, shown q) at all)

-- ---- with the family bit in front
pub shared_behind : (c : Bool) (n : ℕ) (p q : List Bool) → IsSharedLength p q n → IsSharedLength (c ∷ p) (c ∷ q) (n + 1)
shared_behind c n p q is =
    let (t, long, one, other) = is.shared in
    record {
      shared = (c ∷ t, omega arith, ap (λ x. c ∷ x) one, ap (λ x. c ∷ x) other);
      longest = longest;
    }
  where
    longest : (s : List Bool) → BeginsWith (c ∷ p) s → BeginsWith (c ∷ q) s → length s ≤ n + 1
    longest [] first second = omega arith
    longest (d ∷ s) first second = omega (arith, is.longest s (ap (drop 1) first) (ap (drop 1) second))

pub shared_apart : (c d : Bool) (p q : List Bool) → c ≢ d → IsSharedLength (c ∷ p) (d ∷ q) 0
shared_apart c d p q other = record { shared = ([], refl, refl, refl); longest = longest }
  where
    longest : (s : List Bool) → BeginsWith (c ∷ p) s → BeginsWith (d ∷ q) s → length s ≤ 0
    longest [] first second = omega arith
    longest (b ∷ s) first second = absurd (other (ap (λ t. get_or t 0 b) (first ∙ sym second)))

pub shared_none : (q : List Bool) → IsSharedLength [] q 0
shared_none q = record { shared = ([], refl, refl, refl); longest = λ s first second. omega (arith, not_longer s [] first) }

pub shared_none_of : (p : List Bool) → IsSharedLength p [] 0
shared_none_of p = record { shared = ([], refl, refl, refl); longest = λ s first second. omega (arith, not_longer s [] second) }

pub ruleset shared_laws = (shared_behind, shared_apart, shared_none, shared_none_of, true≢false, false≢true)
