-- What the four traits say of values, at the types of one family and at those of either.
use Rattle.std.proofs.Common.{◌≡◌, ◌↔◌, ℕ, Bool, false, List, Some, Ok, Err, IsTrue, refl, sym, ap}
use Rattle.cidr.specs.either.ByFamily.{IsKnownBy, IsHostOrderByFamily, ReadsByFamily, PrintsByFamily}
use Rattle.cidr.specs.either.IpAddress.{IsIpText, address_family, plain_bits}
use Rattle.cidr.specs.either.IpHost.{host_family, host_parts}
use Rattle.cidr.specs.either.IpNetwork.{network_family, network_prefix}
use Rattle.cidr.specs.either.IpPair.{pair_family, pair_parts}
use Rattle.cidr.specs.either.IpText.{IsIpNetworkText, IsIpHostText, ReadsIpNetwork, ReadsIpHost, ip_network_text, ip_host_text}
use Rattle.cidr.specs.model.Host.{Host, host_cmp}
use Rattle.cidr.specs.model.Pair.{Pair}
use Rattle.cidr.specs.texts.AddressText.{IsAddressText, Reads, address_error}
use Rattle.cidr.specs.texts.HostText.{IsHostText, ReadsHost}
use Rattle.cidr.specs.texts.Messages.{ip_error}
use Rattle.cidr.specs.texts.NetworkText.{IsNetworkText}
use Rattle.cidr.specs.texts.PrintedAddress.{address_text, ip_text}
use Rattle.cidr.specs.texts.Printed.{plain_text, plain_host_text}
use Rattle.cidr.specs.texts.Refusal.{ReadsNetwork}
use Rattle.cidr.specs.declared.addr.ip.IpAddr.{IpAddr}
use Rattle.cidr.specs.declared.addr.ip.IpAddr.TheVariants as address
use Rattle.cidr.specs.declared.cidr.combined.IpCidr.{IpCidr}
use Rattle.cidr.specs.declared.cidr.combined.IpCidr.TheVariants as network
use Rattle.cidr.specs.declared.family.Family.{Family}
use Rattle.cidr.specs.declared.family.Family.TheVariants.{Ipv4, Ipv6}
use Rattle.cidr.specs.declared.inet.combined.IpInet.{IpInet}
use Rattle.cidr.specs.declared.inet.combined.IpInet.TheVariants as host
use Rattle.cidr.specs.declared.inet_pair.combined.IpInetPair.TheVariants as pair

families_differ : ¬ (Ipv4 ≡ Ipv6)
families_differ e = cc

-- values of two families are not equal
module _ {E : Type 0} (family : E → Family) (x y : E) (four : family x ≡ Ipv4) (six : family y ≡ Ipv6) where
  differ : ¬ (x ≡ y)
  differ e =
      let same : family x ≡ family y = ap family e in
      families_differ (rw (four, six) at same)

  pub apart_from_six : IsTrue false ↔ (x ≡ y)
  apart_from_six = (λ h. absurd (cc), λ e. absurd (differ e))

  pub apart_from_four : IsTrue false ↔ (y ≡ x)
  apart_from_four = (λ h. absurd (cc), λ e. absurd (differ (sym e)))

-- values of one family that are the same are shown alike
pub address_v4 : (a b : List Bool) → address.V4 a ≡ address.V4 b → a ≡ b
address_v4 a b e = ap plain_bits e

pub address_v6 : (a b : List Bool) → address.V6 a ≡ address.V6 b → a ≡ b
address_v6 a b e = ap plain_bits e

pub network_v4 : (a b : List Bool) → network.V4 a ≡ network.V4 b → a ≡ b
network_v4 a b e = ap network_prefix e

pub network_v6 : (a b : List Bool) → network.V6 a ≡ network.V6 b → a ≡ b
network_v6 a b e = ap network_prefix e

pub host_v4 : (a b : Host) → host.V4 a ≡ host.V4 b → a ≡ b
host_v4 a b e = ap host_parts e

pub host_v6 : (a b : Host) → host.V6 a ≡ host.V6 b → a ≡ b
host_v6 a b e = ap host_parts e

pub pair_v4 : (a b : Pair) → pair.V4 a ≡ pair.V4 b → a ≡ b
pair_v4 a b e = ap pair_parts e

pub pair_v6 : (a b : Pair) → pair.V6 a ≡ pair.V6 b → a ≡ b
pair_v6 a b e = ap pair_parts e

-- ---- what shows a value tells it
pub ip_address_known : IsKnownBy address_family plain_bits
ip_address_known (address.V4 a) (address.V4 b) f h = ap address.V4 h
ip_address_known (address.V4 a) (address.V6 b) f h = absurd (families_differ f)
ip_address_known (address.V6 a) (address.V4 b) f h = absurd (families_differ (sym f))
ip_address_known (address.V6 a) (address.V6 b) f h = ap address.V6 h

pub ip_network_known : IsKnownBy network_family network_prefix
ip_network_known (network.V4 p) (network.V4 q) f h = ap network.V4 h
ip_network_known (network.V4 p) (network.V6 q) f h = absurd (families_differ f)
ip_network_known (network.V6 p) (network.V4 q) f h = absurd (families_differ (sym f))
ip_network_known (network.V6 p) (network.V6 q) f h = ap network.V6 h

pub ip_host_known : IsKnownBy host_family host_parts
ip_host_known (host.V4 a) (host.V4 b) f h = ap host.V4 h
ip_host_known (host.V4 a) (host.V6 b) f h = absurd (families_differ f)
ip_host_known (host.V6 a) (host.V4 b) f h = absurd (families_differ (sym f))
ip_host_known (host.V6 a) (host.V6 b) f h = ap host.V6 h

pub ip_pair_known : IsKnownBy pair_family pair_parts
ip_pair_known (pair.V4 a) (pair.V4 b) f h = ap pair.V4 h
ip_pair_known (pair.V4 a) (pair.V6 b) f h = absurd (families_differ f)
ip_pair_known (pair.V6 a) (pair.V4 b) f h = absurd (families_differ (sym f))
ip_pair_known (pair.V6 a) (pair.V6 b) f h = ap pair.V6 h

-- ---- order
pub ordered_hosts : (family : Family) → IsHostOrderByFamily (λ h. family) (λ h. h) host_cmp
ordered_hosts Ipv4 a b = refl
ordered_hosts Ipv6 a b = refl

-- ---- reading
pub reads_address : (family : Family) → ReadsByFamily IsAddressText (λ a. family) (λ a. a) (Reads (IsAddressText family) (address_error family))
reads_address family text (Ok a) h = h
reads_address family text (Err e) h = h.1

pub reads_network : (family : Family) → ReadsByFamily IsNetworkText (λ n. family) (λ n. n) (ReadsNetwork family)
reads_network family text (Ok n) h = h
reads_network family text (Err e) h = h.1

pub reads_host : (family : Family) → ReadsByFamily IsHostText (λ h. family) (λ h. h) (ReadsHost family)
reads_host family text (Ok a) h = h
reads_host family text (Err e) h = h.1

no_ip_address : (text : List ℕ) → ((x : IpAddr) → ¬ (IsIpText text x)) → (x : IpAddr) → ¬ (IsAddressText (address_family x) text (plain_bits x))
no_ip_address text none (address.V4 x) = none (address.V4 x)
no_ip_address text none (address.V6 x) = none (address.V6 x)

pub reads_ip_address : ReadsByFamily IsAddressText address_family plain_bits (Reads IsIpText ip_error)
reads_ip_address text (Ok (address.V4 a)) h = h
reads_ip_address text (Ok (address.V6 a)) h = h
reads_ip_address text (Err e) h = no_ip_address text h.1

no_ip_network : (text : List ℕ) → ((x : IpCidr) → ¬ (IsIpNetworkText text x)) → (x : IpCidr) → ¬ (IsNetworkText (network_family x) text (network_prefix x))
no_ip_network text none (network.V4 x) = none (network.V4 x)
no_ip_network text none (network.V6 x) = none (network.V6 x)

pub reads_ip_network : ReadsByFamily IsNetworkText network_family network_prefix ReadsIpNetwork
reads_ip_network text (Ok (network.V4 p)) h = h
reads_ip_network text (Ok (network.V6 p)) h = h
reads_ip_network text (Err e) h = no_ip_network text h.1

no_ip_host : (text : List ℕ) → ((x : IpInet) → ¬ (IsIpHostText text x)) → (x : IpInet) → ¬ (IsHostText (host_family x) text (host_parts x))
no_ip_host text none (host.V4 x) = none (host.V4 x)
no_ip_host text none (host.V6 x) = none (host.V6 x)

pub reads_ip_host : ReadsByFamily IsHostText host_family host_parts ReadsIpHost
reads_ip_host text (Ok (host.V4 a)) h = h
reads_ip_host text (Ok (host.V6 a)) h = h
reads_ip_host text (Err e) h = no_ip_host text h.1

-- ---- printing
pub prints_ip_address : PrintsByFamily address_text address_family plain_bits (λ a. Some (ip_text a))
prints_ip_address (address.V4 a) = refl
prints_ip_address (address.V6 a) = refl

pub prints_ip_network : PrintsByFamily plain_text network_family network_prefix (λ n. Some (ip_network_text plain_text n))
prints_ip_network (network.V4 p) = refl
prints_ip_network (network.V6 p) = refl

pub prints_ip_host : PrintsByFamily plain_host_text host_family host_parts (λ h. Some (ip_host_text plain_host_text h))
prints_ip_host (host.V4 a) = refl
prints_ip_host (host.V6 a) = refl
