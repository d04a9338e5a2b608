-- A short IPv4 network as a string (the crate `cidr`): one to four octets joined by dots, as the network of so many
-- whole octets.
use Rattle.std.specs.Prelude.{◌≡◌, ℕ, ◌≤◌, ◌⊎◌, Bool, List, length, Result}
use Rattle.cidr.specs.model.Address.{octet_bits}
use Rattle.cidr.specs.texts.Ipv4Text.{IsJoined}
use Rattle.cidr.specs.texts.Ipv6Text.{IsIpv6Text}
use Rattle.cidr.specs.texts.NetworkText.{slash, IsLengthText}
use Rattle.cidr.specs.texts.Refusal.{Lacks, CutsAtLastSlash}
use Rattle.cidr.specs.declared.errors.NetworkParseError.{NetworkParseError}
use Rattle.cidr.specs.declared.cidr.combined.IpCidr.{IpCidr}
use Rattle.cidr.specs.declared.cidr.combined.IpCidr.TheVariants.{V4, V6}

-- the network of these octets: eight bits for each; its first address has zeros for the octets that are missing
pub record IsShortText (text : List ℕ) (network : List Bool) : Type 0 where
  pub octets : List ℕ
  pub few : length octets ≤ 4
  pub joined : IsJoined IsLengthText text octets
  pub value : network ≡ octet_bits octets

-- of either family: a short IPv4 network, or an IPv6 address as the network of that address alone
abbrev pub IsShortIpText : List ℕ → IpCidr → Type 0
IsShortIpText text (V4 network) = IsShortText text network
IsShortIpText text (V6 network) = IsIpv6Text text network

-- the result of parsing a string without a slash as a short network, and of one with a slash strictly
abbrev pub ReadsShort : {N : Type 0} → (List ℕ → Result N NetworkParseError → Type 0) → (List ℕ → Result N NetworkParseError → Type 0)
    → List ℕ → Result N NetworkParseError → Type 0
ReadsShort Short Strict text r =
    (Lacks slash text × Short text r)
    ⊎ ((front : List ℕ) × (back : List ℕ) × CutsAtLastSlash text front back × Strict text r)
