-- Networks and hosts of either family as strings, and the error of a string that represents none.
use Rattle.std.specs.Prelude.{◌≡◌, ◌≢◌, ℕ, Bool, List, codes, ◌⊎◌, MatchOption, Result, Ok, MatchResult}
use Rattle.std.specs.Option.{option_map_or}
use Rattle.cidr.specs.model.Host.{Host}
use Rattle.cidr.specs.texts.NetworkText.{IsNetworkText}
use Rattle.cidr.specs.texts.Refusal.{IsRefused}
use Rattle.cidr.specs.texts.HostText.{IsHostText}
use Rattle.cidr.specs.texts.Messages.{ip_error}
use Rattle.cidr.specs.model.Views.{seen}
use Rattle.cidr.specs.either.IpNetwork.{specific, any_of}
use Rattle.cidr.specs.declared.cidr.combined.IpCidr.{IpCidr}
use Rattle.cidr.specs.declared.cidr.combined.IpCidr.TheVariants.{V4, V6}
use Rattle.cidr.specs.declared.cidr.any.AnyIpCidr.{AnyIpCidr}
use Rattle.cidr.specs.declared.cidr.any.AnyIpCidr.TheVariants as any_network
use Rattle.cidr.specs.declared.errors.NetworkParseError.{NetworkParseError}
use Rattle.cidr.specs.declared.errors.NetworkParseError.TheVariants as parse_error
use Rattle.cidr.specs.declared.family.Family.{Family}
use Rattle.cidr.specs.declared.family.Family.TheVariants.{Ipv4, Ipv6}
use Rattle.cidr.specs.declared.inet.combined.IpInet.{IpInet}
use Rattle.cidr.specs.declared.inet.combined.IpInet.TheVariants as host

-- ---- reading
-- the string represents this network, in the form of its family; no string is of both families
abbrev pub IsIpNetworkText : List ℕ → IpCidr → Type 0
IsIpNetworkText text (V4 p) = IsNetworkText Ipv4 text p
IsIpNetworkText text (V6 p) = IsNetworkText Ipv6 text p

-- the same, and `any` represents `Any`
abbrev pub IsAnyNetworkText : List ℕ → AnyIpCidr → Type 0
IsAnyNetworkText text network = MatchOption (specific network) (text ≡ codes "any") (IsIpNetworkText text)

-- the first error: that of the address where the string has one of neither family, and else the first one after the
-- address
abbrev pub IsIpRefused : List ℕ → NetworkParseError → Type 0
IsIpRefused text (parse_error.AddrParseError e) = (family : Family) → IsRefused family ip_error text (parse_error.AddrParseError e)
IsIpRefused text (parse_error.NetworkLengthParseError e) =
    (family : Family) × IsRefused family ip_error text (parse_error.NetworkLengthParseError e)
IsIpRefused text (parse_error.NetworkLengthTooLongError e) =
    (family : Family) × IsRefused family ip_error text (parse_error.NetworkLengthTooLongError e)
IsIpRefused text parse_error.InvalidHostPart = (family : Family) × IsRefused family ip_error text parse_error.InvalidHostPart

-- of a string and the result of parsing it: the network that it represents; or the first error, and then it represents
-- none
abbrev pub ReadsIpNetwork : List ℕ → Result IpCidr NetworkParseError → Type 0
ReadsIpNetwork text r = MatchResult r (IsIpNetworkText text) (λ e. IsIpRefused text e × ((n : IpCidr) → ¬ (IsIpNetworkText text n)))

-- the same, where `any` represents `Any`
abbrev pub ReadsAnyNetwork : List ℕ → Result AnyIpCidr NetworkParseError → Type 0
ReadsAnyNetwork text r = MatchResult r (IsAnyNetworkText text) (λ e. IsIpRefused text e × ((n : AnyIpCidr) → ¬ (IsAnyNetworkText text n)))

-- `Any` for the string `any`, and for any other what parsing a network of either family gives
abbrev pub ReadsAny : (List ℕ → Result IpCidr NetworkParseError → Type 0) → List ℕ → Result AnyIpCidr NetworkParseError → Type 0
ReadsAny Reads text r =
    ((text ≡ codes "any") × (r ≡ Ok any_network.Any))
    ⊎ ((text ≢ codes "any") × (network : Result IpCidr NetworkParseError) × Reads text network × (r ≡ seen any_of network))

-- ---- hosts
-- the string represents this host, in the form of its family
abbrev pub IsIpHostText : List ℕ → IpInet → Type 0
IsIpHostText text (host.V4 h) = IsHostText Ipv4 text h
IsIpHostText text (host.V6 h) = IsHostText Ipv6 text h

-- the first error, as for a network; a set bit after the prefix is none
abbrev pub IsIpHostRefused : List ℕ → NetworkParseError → Type 0
IsIpHostRefused text e = IsIpRefused text e × (e ≢ parse_error.InvalidHostPart)

-- of a string and the result of parsing it: the host that it represents; or the first error, and then it represents
-- none
abbrev pub ReadsIpHost : List ℕ → Result IpInet NetworkParseError → Type 0
ReadsIpHost text r = MatchResult r (IsIpHostText text) (λ e. IsIpHostRefused text e × ((h : IpInet) → ¬ (IsIpHostText text h)))

-- ---- printing
-- what is printed of a network of either family, in this form, with or without a full length
abbrev pub ip_network_text : (Family → List Bool → List ℕ) → IpCidr → List ℕ
ip_network_text form (V4 p) = form Ipv4 p
ip_network_text form (V6 p) = form Ipv6 p

-- the same; `Any` is printed as `any` in both forms
abbrev pub any_network_text : (Family → List Bool → List ℕ) → AnyIpCidr → List ℕ
any_network_text form network = option_map_or (ip_network_text form) (specific network) (codes "any")

-- what is printed of a host of either family, in this form, with or without a full length
abbrev pub ip_host_text : (Family → Host → List ℕ) → IpInet → List ℕ
ip_host_text form (host.V4 h) = form Ipv4 h
ip_host_text form (host.V6 h) = form Ipv6 h
