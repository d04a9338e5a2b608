-- What is told of a string with set bits after the prefix of its network.
use Rattle.std.specs.Prelude.{◌≡◌, ◌≢◌, ℕ, List, Bool, true, false, take}
use Rattle.cidr.specs.declared.errors.NetworkParseError.{NetworkParseError}
use Rattle.cidr.specs.declared.errors.NetworkParseError.TheVariants.{InvalidHostPart}
use Rattle.cidr.specs.declared.family.Family.TheVariants.{Ipv4}
use Rattle.cidr.specs.texts.Messages.{ipv4_error}
use Rattle.cidr.specs.texts.NetworkText.{IsNetworkText, IsLengthText}
use Rattle.cidr.specs.texts.Refusal.{HasAddress, IsRefused}

-- the network is the first bits of the address of the string, as many as its prefix length
abbrev pub IsMasked : List ℕ → List Bool → Type 0
IsMasked text network =
    (back : List ℕ) × (a : List Bool) × (n : ℕ) × HasAddress Ipv4 text back a × IsLengthText back n × (network ≡ take n a)

-- without a note the string represents the network; with one, a bit after the prefix is set, and the network is what
-- is left without such bits
abbrev pub IsNoted : List ℕ → List Bool → Bool → Type 0
IsNoted text network false = IsNetworkText Ipv4 text network
IsNoted text network true = IsRefused Ipv4 ipv4_error text InvalidHostPart × IsMasked text network

-- the first error of the string, which is no set bit after the prefix
abbrev pub IsOtherError : List ℕ → NetworkParseError → Type 0
IsOtherError text e = (e ≢ InvalidHostPart) × IsRefused Ipv4 ipv4_error text e
