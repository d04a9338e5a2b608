-- An address and a mask in place of a prefix length, as `192.0.2.0/255.255.255.0` and, as routers have them,
-- `192.0.2.0 0.0.0.255`.
use Rattle.std.specs.Prelude.{◌≡◌, ◌⊎◌, ℕ, Bool, List, ◌∷◌, ◌++◌, length, drop}
use Rattle.std.specs.Char.{is_ascii_whitespace}
use Rattle.std.specs.List.{before_first}
use Rattle.std.specs.Str.{IsTrimAsciiStart}
use Rattle.cidr.specs.either.IpAddress.{address_family, plain_bits}
use Rattle.cidr.specs.either.IpHost.{host_at, host_family, host_network, host_parts}
use Rattle.cidr.specs.model.Host.{first_host}
use Rattle.cidr.specs.model.Network.{width_of}
use Rattle.cidr.specs.texts.AddressText.{IsAddressText}
use Rattle.cidr.specs.texts.NetworkText.{slash}
use Rattle.cidr.specs.texts.Refusal.{Lacks}
use Rattle.cidr.specs.declared.addr.ip.IpAddr.{IpAddr}
use Rattle.cidr.specs.declared.inet.combined.IpInet.{IpInet}
use Rattle.cidr_ext.specs.texts.MaskText.{IsLengthOfMask}

-- what stands before a slash of the string and behind it, or, where it has none, before its first ASCII white space and behind
-- that
abbrev pub AreParts : List ℕ → List ℕ → List ℕ → Type 0
AreParts text front back = (text ≡ front ++ slash ∷ back)
    ⊎ (Lacks slash text × (front ≡ before_first is_ascii_whitespace text) × IsTrimAsciiStart (drop (length front) text) back)

-- the first string is the address of this host, and the second a network mask or a host mask of its prefix length
abbrev pub AreAddressAndMask : List ℕ → List ℕ → IpInet → Type 0
AreAddressAndMask front back host = IsAddressText (host_family host) front (host_parts host).address
    × (mask : List Bool) × IsAddressText (host_family host) back mask × IsLengthOfMask (width_of (host_family host)) (host_parts host).len mask

-- the string is this host, by its address and a mask
abbrev pub IsMaskedHost : List ℕ → IpInet → Type 0
IsMaskedHost text host = (front : List ℕ) × (back : List ℕ) × AreParts text front back × AreAddressAndMask front back host

-- it is, and its mask says one network: a mask of length 0 is a network mask as well as a host mask, so that the host has no
-- set bit then
abbrev pub IsClearedHost : List ℕ → IpInet → Type 0
IsClearedHost text host = IsMaskedHost text host × ((host_parts host).len ≡ 0 → host_at first_host (host_network host) ≡ host)

-- ---- what private functions promise
-- the second address is a mask of this length, of the family of the first
abbrev pub IsLengthBeside : IpAddr → IpAddr → ℕ → Type 0
IsLengthBeside address mask n =
    (address_family address ≡ address_family mask) × IsLengthOfMask (width_of (address_family mask)) n (plain_bits mask)
