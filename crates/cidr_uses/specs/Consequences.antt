-- What two texts say when networks are compared, and which walk a text names.
use Rattle.std.specs.Prelude.{◌≡◌, ◌↔◌, ℕ, Bool, List, IsTrue}
use Rattle.std.specs.List.{Contains}
use Rattle.cidr.specs.bytes.Agreement.{IsAddressOf, IsAnyAddressOf, SameAddresses}
use Rattle.cidr.specs.declared.cidr.any.AnyIpCidr.{AnyIpCidr}
use Rattle.cidr.specs.declared.family.Family.{Family}
use Rattle.cidr.specs.either.IpText.{IsAnyNetworkText, any_network_text}
use Rattle.cidr.specs.texts.Printed.{plain_text}
use Rattle.cidr.specs.texts.NetworkText.{IsNetworkText}

-- both texts are of networks; the outcome says whether these have the same addresses, and so whether they are printed alike
pub record AreCompared (first second : List ℕ) (same : Bool) : Type 0 where
  pub one : AnyIpCidr
  pub other : AnyIpCidr
  pub one_spelled : IsAnyNetworkText first one
  pub other_spelled : IsAnyNetworkText second other
  pub exactly : IsTrue same ↔ SameAddresses (IsAnyAddressOf one) (IsAnyAddressOf other)
  pub printed : SameAddresses (IsAnyAddressOf one) (IsAnyAddressOf other) ↔ (any_network_text plain_text one ≡ any_network_text plain_text other)

-- the text is of a network, and the walk has exactly its addresses
pub record IsWalkOfText (family : Family) (text : List ℕ) (walk : List (Family × List Bool)) : Type 0 where
  pub network : List Bool
  pub spelled : IsNetworkText family text network
  pub exactly : (a : List Bool) → Contains walk (family, a) ↔ IsAddressOf family network a
