-- Two networks agree in all of five, or in none: values, order, address sets, printed strings and compact bytes.
use Rattle.std.specs.Prelude.{◌≡◌, ◌≢◌, ◌↔◌, ℕ, Bool, List}
use Rattle.std.specs.declared.cmp.Ordering.{Ordering}
use Rattle.std.specs.declared.cmp.Ordering.TheVariants.{Equal}
use Rattle.cidr.specs.model.Network.{width_of, HasWidth, BeginsWith}
use Rattle.cidr.specs.either.IpNetwork.{network_bits, any_bits, IsAddressBits}
use Rattle.cidr.specs.declared.cidr.any.AnyIpCidr.{AnyIpCidr}
use Rattle.cidr.specs.declared.cidr.combined.IpCidr.{IpCidr}
use Rattle.cidr.specs.declared.family.Family.{Family}

-- the addresses of a network of one family, by their bits
abbrev pub IsAddressOf : Family → List Bool → List Bool → Type 0
IsAddressOf family network a = HasWidth (width_of family) a × BeginsWith a network

-- the addresses of a network of either family, with the family bit in front
abbrev pub IsIpAddressOf : IpCidr → List Bool → Type 0
IsIpAddressOf network a = IsAddressBits a × BeginsWith a (network_bits network)

-- the same; `Any` has all addresses of both families
abbrev pub IsAnyAddressOf : AnyIpCidr → List Bool → Type 0
IsAnyAddressOf network a = IsAddressBits a × BeginsWith a (any_bits network)

-- two sets of addresses are the same
abbrev pub SameAddresses : (List Bool → Type 0) → (List Bool → Type 0) → Type 0
SameAddresses Holds HoldsToo = (a : List Bool) → Holds a ↔ HoldsToo a

module _ {N : Type 0} (Holds : N → List Bool → Type 0) (text bytes : N → List ℕ) (cmp : N → N → Ordering) where
  -- all five agree
  pub record AllAgree (x y : N) : Type 0 where
    pub value : x ≡ y
    pub order : cmp x y ≡ Equal
    pub addresses : SameAddresses (Holds x) (Holds y)
    pub texts : text x ≡ text y
    pub compact : bytes x ≡ bytes y

  -- none of the five agrees
  pub record NoneAgrees (x y : N) : Type 0 where
    pub value : x ≢ y
    pub order : cmp x y ≢ Equal
    pub addresses : ¬ (SameAddresses (Holds x) (Holds y))
    pub texts : text x ≢ text y
    pub compact : bytes x ≢ bytes y

  -- each of the four others tells which network it is
  pub record TellsNetwork (IsNetwork : N → Type 0) : Type 0 where
    pub by_order : (x y : N) → IsNetwork x → IsNetwork y → cmp x y ≡ Equal → x ≡ y
    pub by_addresses : (x y : N) → IsNetwork x → IsNetwork y → SameAddresses (Holds x) (Holds y) → x ≡ y
    pub by_text : (x y : N) → IsNetwork x → IsNetwork y → text x ≡ text y → x ≡ y
    pub by_bytes : (x y : N) → IsNetwork x → IsNetwork y → bytes x ≡ bytes y → x ≡ y
