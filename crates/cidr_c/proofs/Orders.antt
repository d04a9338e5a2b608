-- Comparing values is a total order.
use Rattle.std.proofs.Common.{◌≡◌, ℕ, ◌+◌, ◌≤◌, false, inl, inr, refl, ◌∙◌, ap₂, arith}
use Rattle.std.proofs.lemmas.Bool.{cases_eq, cases_lt}
use Rattle.std.proofs.lemmas.Cmp.{upto, on_total, then_total, nat_cmp_total}
use Rattle.std.specs.Cmp.{IsTotalOrder}
use Rattle.std.specs.Ordering.{is_gt, ordering_reverse}
use Rattle.std.specs.declared.cmp.Ordering.{Ordering}
use Rattle.std.specs.declared.cmp.Ordering.TheVariants.{Less, Equal, Greater}
use Rattle.cidr.specs.laws.BitLaws.{bit_cmp_total}
use Rattle.cidr.specs.model.Bits.{bit_cmp}
use Rattle.cidr.specs.declared.cidr.any.AnyIpCidr.{AnyIpCidr}
use Rattle.cidr.specs.either.IpNetwork.{any_bits}
use Rattle.cidr.specs.either.IpAddress.{ip_address_bits}
use Rattle.cidr.specs.either.IpHost.{host_address, host_parts}
use Rattle.cidr_c.specs.model.Codes.{order_code}
use Rattle.cidr_c.specs.model.Orders.{IsCompared, IsTotal, field_order, host_value_order, network_order}
use Rattle.cidr_c.specs.model.Values.{IsHostValue, IsNetworkValue, host_in, network_in}
use Rattle.cidr_c.specs.declared.values.CValue.{CValue}

network_order_total : IsTotalOrder network_order
network_order_total = on_total (λ (v : CValue). any_bits (network_in v)) bit_cmp_total

host_value_order_total : IsTotalOrder host_value_order
host_value_order_total =
    then_total (on_total (λ (v : CValue). ip_address_bits (host_address (host_in v))) bit_cmp_total)
    (on_total (λ (v : CValue). (host_parts (host_in v)).len) nat_cmp_total)

field_order_total : IsTotalOrder field_order
field_order_total =
    then_total (on_total (λ (v : CValue). v.tag) nat_cmp_total)
    (then_total (on_total (λ (v : CValue). v.high) nat_cmp_total) (on_total (λ (v : CValue). v.low) nat_cmp_total))

no_later : (r : Ordering) (code : ℕ) → code ≡ order_code r → code ≤ 1 → is_gt r ≡ false
no_later Less code is low = refl
no_later Equal code is low = refl
no_later Greater code is low = absurd (omega (arith, is, low))

at_most_one : (r : Ordering) (code : ℕ) → code ≡ order_code r → is_gt r ≡ false → code ≤ 1
at_most_one Less code is not_greater = omega (arith, is)
at_most_one Equal code is not_greater = omega (arith, is)
at_most_one Greater code is not_greater = absurd (cc)

turned : (r s : Ordering) (there back : ℕ) → r ≡ ordering_reverse s → there ≡ order_code r → back ≡ order_code s → there + back ≡ 2
turned r Less there back e is was = let now : there ≡ 2 = rw e at is in omega (arith, now, was)
turned r Equal there back e is was = let now : there ≡ 1 = rw e at is in omega (arith, now, was)
turned r Greater there back e is was = let now : there ≡ 0 = rw e at is in omega (arith, now, was)

-- a contradiction in each of two cases is one
in_both : (P : Type 0) → (P → ⊥) → ((P → ⊥) → ⊥) → ⊥
in_both P one other = other one

module _ (IsValue : CValue → Type 0) (order : CValue → CValue → Ordering) (total : IsTotalOrder order) where
  opposite : (a b : CValue) (there back : ℕ) → IsCompared IsValue order a b there → IsCompared IsValue order b a back
      → (there + back ≡ 2 → ⊥) → ⊥
  opposite a b there back ab ba other =
      in_both (IsValue a)
      (λ is_a. in_both (IsValue b)
      (λ is_b. other (turned (order a b) (order b a) there back (total.antisymm a b) (ab.values is_a is_b) (ba.values is_b is_a)))
      (λ no_b. other (turned Less Greater there back refl (ab.before is_a no_b) (ba.after no_b is_a))))
      (λ no_a. in_both (IsValue b)
      (λ is_b. other (turned Greater Less there back refl (ab.after no_a is_b) (ba.before is_b no_a)))
      (λ no_b. other (turned (field_order a b) (field_order b a) there back (field_order_total.antisymm a b) (ab.others no_a no_b) (ba.others no_b no_a))))

  transitive : (a b c : CValue) (first second both : ℕ) → IsCompared IsValue order a b first → IsCompared IsValue order b c second
      → IsCompared IsValue order a c both → first ≤ 1 → second ≤ 1 → (both ≤ 1 → ⊥) → ⊥
  transitive a b c first second both ab bc ac one two other =
      in_both (IsValue a)
      (λ is_a. in_both (IsValue c)
      (λ is_c. in_both (IsValue b)
      (λ is_b. other (at_most_one (order a c) both (ac.values is_a is_c)
      (upto total a b c (no_later (order a b) first (ab.values is_a is_b) one) (no_later (order b c) second (bc.values is_b is_c) two))))
      (λ no_b. let late : second ≡ 2 = bc.after no_b is_c in omega (arith, late, two)))
      (λ no_c. other (at_most_one Less both (ac.before is_a no_c) refl)))
      (λ no_a. in_both (IsValue b)
      (λ is_b. let late : first ≡ 2 = ab.after no_a is_b in omega (arith, late, one))
      (λ no_b. in_both (IsValue c)
      (λ is_c. let late : second ≡ 2 = bc.after no_b is_c in omega (arith, late, two))
      (λ no_c. other (at_most_one (field_order a c) both (ac.others no_a no_c)
      (upto field_order_total a b c (no_later (field_order a b) first (ab.others no_a no_b) one)
      (no_later (field_order b c) second (bc.others no_b no_c) two))))))

  compared_total : IsTotal (IsCompared IsValue order)
  compared_total = record {
    opposite = λ a b there back ab ba. elim (cases_eq (there + back) 2) [
      | inl e ↦ e
      | inr other ↦ absurd (opposite a b there back ab ba other)
    ];
    transitive = λ a b c first second both ab bc ac one two. elim (cases_lt 1 both) [
      | inl late ↦ absurd (transitive a b c first second both ab bc ac one two (λ low. omega (arith, late, low)))
      | inr low ↦ low
    ];
  }

pub networks_total : IsTotal (IsCompared IsNetworkValue network_order)
networks_total = compared_total IsNetworkValue network_order network_order_total

pub hosts_total : IsTotal (IsCompared IsHostValue host_value_order)
hosts_total = compared_total IsHostValue host_value_order host_value_order_total

-- ---- what a comparison shows, by which of the two values the call takes
module _ {IsValue : CValue → Type 0} {order : CValue → CValue → Ordering} (one other : CValue) (code : ℕ) where
  pub both_taken : IsValue one → IsValue other → code ≡ order_code (order one other) → IsCompared IsValue order one other code
  both_taken first second is = record {
    values = λ _ _. is;
    before = λ _ none. absurd (none second);
    after = λ none _. absurd (none first);
    others = λ none _. absurd (none first);
  }

  pub first_taken : IsValue one → ¬ (IsValue other) → code ≡ order_code Less → IsCompared IsValue order one other code
  first_taken first none is = record {
    values = λ _ second. absurd (none second);
    before = λ _ _. is;
    after = λ _ second. absurd (none second);
    others = λ other_none _. absurd (other_none first);
  }

  pub second_taken : ¬ (IsValue one) → IsValue other → code ≡ order_code Greater → IsCompared IsValue order one other code
  second_taken none second is = record {
    values = λ first _. absurd (none first);
    before = λ first _. absurd (none first);
    after = λ _ _. is;
    others = λ _ other_none. absurd (other_none second);
  }

  pub none_taken : ¬ (IsValue one) → ¬ (IsValue other) → code ≡ order_code (field_order one other)
      → IsCompared IsValue order one other code
  none_taken none other_none is = record {
    values = λ first _. absurd (none first);
    before = λ first _. absurd (none first);
    after = λ _ second. absurd (other_none second);
    others = λ _ _. is;
  }

pub ruleset comparisons = (both_taken, first_taken, second_taken, none_taken)

pub networks_compared : (v w : CValue) (n m : AnyIpCidr) (code : ℕ) → IsNetworkValue v × (n ≡ network_in v) → IsNetworkValue w × (m ≡ network_in w)
    → code ≡ order_code (bit_cmp (any_bits n) (any_bits m)) → IsCompared IsNetworkValue network_order v w code
networks_compared v w n m code one other is =
    both_taken v w code one.0 other.0 (is ∙ ap₂ (λ a b. order_code (bit_cmp (any_bits a) (any_bits b))) one.1 other.1)

pub ruleset network_comparisons = (networks_compared, first_taken, second_taken, none_taken)
