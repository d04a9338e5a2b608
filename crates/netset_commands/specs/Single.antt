-- The commands on one host or network, their arguments, and what each answers.
use Rattle.std.specs.Prelude.{◌≡◌, ℕ, ◌-◌, ◌^◌, ◌<◌, ◌≤◌, ◌⊎◌, List, [], length}
use Rattle.std.specs.Str.Parse.{IsNumeral, digits_value, without_leading_plus}
use Rattle.cidr.specs.either.IpAddress.{address_family, plain_bits}
use Rattle.cidr.specs.either.IpHost.{host_address, host_network}
use Rattle.cidr.specs.either.IpNetwork.{network_family, network_prefix}
use Rattle.cidr.specs.either.IpText.{IsIpNetworkText, IsIpRefused, IsIpHostText, IsIpHostRefused}
use Rattle.cidr.specs.model.Network.{width_of}
use Rattle.cidr.specs.texts.PrintedAddress.{ip_text}
use Rattle.cidr.specs.declared.addr.ip.IpAddr.{IpAddr}
use Rattle.cidr.specs.declared.cidr.combined.IpCidr.{IpCidr}
use Rattle.cidr.specs.declared.inet.combined.IpInet.{IpInet}
use Rattle.cidr_ext.specs.model.Inside.{IsAddressAt}
use Rattle.cidr_lists.specs.Descriptions.{IsHostLines}
use Rattle.cidr_lists.specs.Printing.{line}
use Rattle.cidr_lists.specs.Wrong.{IsWrong}
use Rattle.netset_commands.specs.declared.output.answers.Verdict.{Verdict}
use Rattle.netset_commands.specs.declared.output.answers.Verdict.TheVariants.{Yes, No}
use Rattle.netset_commands.specs.declared.errors.ArgumentError.{ArgumentError}
use Rattle.netset_commands.specs.declared.errors.ArgumentError.TheVariants as bad

-- a command and its arguments
pub data SingleRequest : Type 0 where
  Show : List ℕ → SingleRequest
  Nth : List ℕ → List ℕ → SingleRequest

-- the string is this number in decimal, perhaps with a plus in front
abbrev pub IsNumber : List ℕ → ℕ → Type 0
IsNumber text n = IsNumeral 10 (without_leading_plus text) × (n ≡ digits_value 10 (without_leading_plus text))

-- no network of n bits is inside this one
abbrev pub HasNone : IpCidr → ℕ → Type 0
HasNone network n = (n < length (network_prefix network)) ⊎ (width_of (network_family network) < n)

-- the address at index i of a network as a line, or nothing where the network has no more addresses than that
abbrev pub IsNthText : IpCidr → ℕ → List ℕ → Verdict → Type 0
IsNthText network i answer Yes = (address : IpAddr) × (address_family address ≡ network_family network)
    × IsAddressAt (width_of (network_family network)) (network_prefix network) i (plain_bits address) × (answer ≡ line (ip_text address))
IsNthText network i answer No = (2 ^ (width_of (network_family network) - length (network_prefix network)) ≤ i) × (answer ≡ [])

-- what a request is answered with
abbrev pub IsSingleAnswer : SingleRequest → List ℕ → Verdict → Type 0
IsSingleAnswer (Show text) answer verdict =
    (host : IpInet) × IsIpHostText text host × IsHostLines (host_network host) (host_address host) answer × (verdict ≡ Yes)
IsSingleAnswer (Nth net place) answer verdict =
    (network : IpCidr) × (i : ℕ) × IsIpNetworkText net network × IsNumber place i × IsNthText network i answer verdict

-- the string is no network: what is wrong with it, if that can be told, and the first error
abbrev pub IsNoNetwork : List ℕ → ArgumentError → Type 0
IsNoNetwork text (bad.Network wrong e) = IsIpRefused text e × ((n : IpCidr) → ¬ (IsIpNetworkText text n)) × IsWrong text wrong
IsNoNetwork text e = ⊥

-- the first argument that is wrong, and its error: no network, and else no index below 2^128
abbrev pub IsBadSingle : SingleRequest → List ℕ → ArgumentError → Type 0
IsBadSingle (Show host) text (bad.Network wrong e) =
    (text ≡ host) × IsIpHostRefused host e × ((h : IpInet) → ¬ (IsIpHostText host h)) × IsWrong host wrong
IsBadSingle (Nth net place) text (bad.Network wrong e) = (text ≡ net) × IsNoNetwork net (bad.Network wrong e)
IsBadSingle (Nth net place) text bad.Index =
    (text ≡ place) × (network : IpCidr) × IsIpNetworkText net network × ((i : ℕ) → IsNumber place i → 2 ^ 128 ≤ i)
IsBadSingle request text e = ⊥
