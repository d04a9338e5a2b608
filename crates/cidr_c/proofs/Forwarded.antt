-- Rows as C has them, as tables of the library.
use Rattle.std.proofs.Common.{[], ◌∷◌, ◌++◌, ◌+◌, ap₂, ◌≡◌, ◌↔◌, ℕ, ◌<◌, ◌-◌, Bool, List, get_or, length, map, take, Option, Some, None, inl, inr, sym, subst, ◌∙◌, arith}
use Rattle.std.specs.List.{Contains}
use Rattle.std.proofs.lemmas.Bool.Decides.{nat_tests}
use Rattle.std.proofs.lemmas.List.{length-take, length-map, get_or-map, map-append, take_more}
use Rattle.std.proofs.lemmas.List.Elements.{All-push}
use Rattle.std.proofs.lemmas.Option.{get_or_from_slice_get, slice_get_within}
use Rattle.cidr.specs.model.Bits.{bits}
use Rattle.cidr.specs.either.IpNetwork.{any_bits}
use Rattle.cidr.specs.declared.cidr.any.AnyIpCidr.{AnyIpCidr}
use Rattle.cidr.specs.declared.cidr.any.AnyIpCidr.TheVariants.{Any}
use Rattle.cidr_forwarding.specs.Forwarding.{AreIpRows, ForwardSame}
use Rattle.cidr_table.specs.model.CoverAddresses.{IsIpAddressBits, IsIpNetworkBits}
use Rattle.cidr_table.specs.model.Prefixes.{IsLookedUp, IsValueLookedUp}
use Rattle.cidr_c.specs.model.Forwarding.{AreOfTable, AreRowValues, ForwardSameRows, IsRowValue, network_row}
use Rattle.cidr_c.specs.model.Values.{IsNetworkValue, network_in, number_in}
use Rattle.cidr_c.specs.declared.forwarding.CRow.{CRow}
use Rattle.cidr_c.specs.declared.values.CValue.{CValue}
use Rattle.cidr_c.proofs.Networks.{ipv4_in_value, ipv6_in_value}

-- ---- networks of one family, or of no bits
any_in_value : (v : CValue) → v.tag ≡ 255 → network_in v ≡ Any
any_in_value v h = grind (arith, nat_tests)

pub network_fits : (v : CValue) → IsNetworkValue v → IsIpNetworkBits (any_bits (network_in v))
network_fits v (inl any) = subst (λ (n : AnyIpCidr). IsIpNetworkBits (any_bits n)) (sym (any_in_value v any.0)) tt
network_fits v (inr (inl low)) =
    subst (λ (n : AnyIpCidr). IsIpNetworkBits (any_bits n)) (sym (ipv4_in_value v (omega (arith, low.0.0))))
    (omega (arith, length-take v.tag (bits 32 v.low), low.0.0))
network_fits v (inr (inr high)) =
    subst (λ (n : AnyIpCidr). IsIpNetworkBits (any_bits n)) (sym (ipv6_in_value v (omega (arith, high.0.1)) high.0.0))
    (omega (arith, length-take (v.tag - 64) (bits 128 (number_in v)), high.0.1))

pub rows_fit : (rows : List CRow) (table : List (AnyIpCidr × ℕ)) → AreRowValues rows → AreOfTable rows table → AreIpRows any_bits table
rows_fit rows table fine last row c =
    let stands = (last row).0 c in
    let none : CRow = record { network = record { high = 0; low = 0; tag = 0; zero_17 = 0; zero_18 = 0; zero_20 = 0 }; value = 0 } in
    let k = stands.index in
    let within : k < length rows = omega (arith, slice_get_within (map network_row rows) k row stands.here, length-map rows network_row) in
    let here : network_row (get_or rows k none) ≡ row = sym (get_or-map network_row rows k none row within) ∙ get_or_from_slice_get (map network_row rows) k row row stands.here in
    subst (λ (r : AnyIpCidr × ℕ). IsIpNetworkBits (any_bits r.0)) here (network_fits (get_or rows k none).network (fine k none within))

-- ---- tables of the same rows forward the same
module _ {C V : Type 0} (bits_of : C → List Bool) (these those : List (C × V)) (same : (row : C × V) → Contains these row ↔ Contains those row) where
  looked_up : (a : List Bool) (r : Option (C × V)) → IsLookedUp bits_of a these r → IsLookedUp bits_of a those r
  looked_up a (Some row) h = record {
    here = (same row).0 h.here;
    begins = h.begins;
    longest = λ other c. h.longest other ((same other).1 c);
  }
  looked_up a None h = λ row c. h row ((same row).1 c)

  pub value_looked_up : (a : List Bool) (v : Option V) → IsValueLookedUp bits_of a these v → IsValueLookedUp bits_of a those v
  value_looked_up a v h = (h.0, looked_up a h.0 h.1, h.2)

last_rows_same : (rows : List CRow) (one other : List (AnyIpCidr × ℕ)) → AreOfTable rows one → AreOfTable rows other
    → (row : AnyIpCidr × ℕ) → Contains one row ↔ Contains other row
last_rows_same rows one other first second row = (λ c. (second row).1 ((first row).0 c), λ c. (first row).1 ((second row).0 c))

pub forward_same : (these those : List CRow) (one other : List (AnyIpCidr × ℕ)) → AreOfTable these one → AreOfTable those other
    → ForwardSame any_bits IsIpAddressBits one other ↔ ForwardSameRows these those
forward_same these those one other first second = (
  λ h x y of_x of_y a address v.
      let there = last_rows_same these x one of_x first in
      let back = last_rows_same these one x first of_x in
      let there' = last_rows_same those y other of_y second in
      let back' = last_rows_same those other y second of_y in (
        λ k. value_looked_up any_bits other y back' a v ((h a address v).0 (value_looked_up any_bits x one there a v k)),
        λ k. value_looked_up any_bits one x back a v ((h a address v).1 (value_looked_up any_bits y other there' a v k)),
      ),
  λ h. h one other first second,
)

-- one row more
pub rows_more : (rows : List CRow) (r : CRow) (listed : List (AnyIpCidr × ℕ)) (i : ℕ) (d : AnyIpCidr × ℕ) → i < length listed
    → AreRowValues rows × (map network_row rows ≡ take i listed) → IsRowValue r → network_row r ≡ get_or listed i d
    → AreRowValues (rows ++ r ∷ []) × (map network_row (rows ++ r ∷ []) ≡ take (i + 1) listed)
rows_more rows r listed i d lt h fine same = (
  All-push IsRowValue rows r h.0 fine,
  map-append network_row rows (r ∷ [])
      ∙ (ap₂ (λ (xs : List (AnyIpCidr × ℕ)) (x : AnyIpCidr × ℕ). xs ++ x ∷ []) h.1 same ∙ sym (take_more listed i d lt)),
)
