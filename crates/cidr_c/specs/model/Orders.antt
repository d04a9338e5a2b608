-- The orders of values: what the call takes in the order of the libraries, before all other values, and these by their
-- fields.
use Rattle.std.specs.Prelude.{◌≡◌, ℕ, ◌+◌, ◌≤◌}
use Rattle.std.specs.Ordering.{nat_cmp, ordering_then}
use Rattle.std.specs.declared.cmp.Ordering.{Ordering}
use Rattle.std.specs.declared.cmp.Ordering.TheVariants.{Less, Greater}
use Rattle.cidr.specs.model.Bits.{bit_cmp}
use Rattle.cidr.specs.either.IpNetwork.{any_bits}
use Rattle.cidr_c.specs.model.Codes.{order_code}
use Rattle.cidr_c.specs.model.Values.{host_in, host_order, network_in}
use Rattle.cidr_c.specs.declared.values.CValue.{CValue}

-- the order of networks: that of their bits, with the family bit in front
abbrev pub network_order : CValue → CValue → Ordering
network_order a b = bit_cmp (any_bits (network_in a)) (any_bits (network_in b))

-- the order of hosts: IPv4 before IPv6, then by address, and then by prefix length
abbrev pub host_value_order : CValue → CValue → Ordering
host_value_order a b = host_order (host_in a) (host_in b)

-- the order of fields: by tag, and then by the number
abbrev pub field_order : CValue → CValue → Ordering
field_order a b = ordering_then (nat_cmp a.tag b.tag) (ordering_then (nat_cmp a.high b.high) (nat_cmp a.low b.low))

-- comparing two values: 0 for less, 1 for equal and 2 for greater
pub record IsCompared (IsValue : CValue → Type 0) (order : CValue → CValue → Ordering) (one other : CValue) (code : ℕ) : Type 0 where
  pub values : IsValue one → IsValue other → code ≡ order_code (order one other)
  pub before : IsValue one → ¬ (IsValue other) → code ≡ order_code Less
  pub after : ¬ (IsValue one) → IsValue other → code ≡ order_code Greater
  pub others : ¬ (IsValue one) → ¬ (IsValue other) → code ≡ order_code (field_order one other)

-- what is compared like this has a total order: turned round, the answer is the opposite; and of three values, if the first
-- comes no later than the second, and the second no later than the third, then the first comes no later than the third
pub record IsTotal (Compares : CValue → CValue → ℕ → Type 0) : Type 0 where
  pub opposite : (a b : CValue) (there back : ℕ) → Compares a b there → Compares b a back → there + back ≡ 2
  pub transitive : (a b c : CValue) (first second both : ℕ) → Compares a b first → Compares b c second → Compares a c both
      → first ≤ 1 → second ≤ 1 → both ≤ 1
