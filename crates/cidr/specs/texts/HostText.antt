-- A host as a string: an address, or an address, a slash and a prefix length (the crate `cidr`). The bits after the
-- prefix are free.
use Rattle.std.specs.Prelude.{◌≡◌, ◌≢◌, ℕ, ◌≤◌, ◌⊎◌, List, ◌∷◌, ◌++◌, Result, MatchResult}
use Rattle.cidr.specs.model.Host.{Host}
use Rattle.cidr.specs.model.Network.{width_of}
use Rattle.cidr.specs.texts.AddressText.{IsAddressText, address_error}
use Rattle.cidr.specs.texts.NetworkText.{slash, IsLengthText}
use Rattle.cidr.specs.texts.Refusal.{IsRefused}
use Rattle.cidr.specs.declared.family.Family.{Family}
use Rattle.cidr.specs.model.Errors.{AddressError}
use Rattle.cidr.specs.declared.errors.NetworkParseError.{NetworkParseError}
use Rattle.cidr.specs.declared.errors.NetworkParseError.TheVariants as parse_error

-- an address, a slash and a prefix length, which is within the width
pub record IsSlashedHost (family : Family) (text : List ℕ) (host : Host) : Type 0 where
  pub front : List ℕ
  pub back : List ℕ
  pub spelled : text ≡ front ++ slash ∷ back
  pub front_text : IsAddressText family front host.address
  pub back_text : IsLengthText back host.len
  pub fits : host.len ≤ width_of family

-- the string represents this host: an address alone is the host of full prefix length
abbrev pub IsHostText : Family → List ℕ → Host → Type 0
IsHostText family text host = (IsAddressText family text host.address × (host.len ≡ width_of family)) ⊎ IsSlashedHost family text host

-- the first error, as for a network; a set bit after the prefix is none
abbrev pub IsHostRefused : Family → AddressError → List ℕ → NetworkParseError → Type 0
IsHostRefused family error text e = IsRefused family error text e × (e ≢ parse_error.InvalidHostPart)

-- of a string and the result of parsing it: the host that it represents; or the first error, and then it represents no
-- host
abbrev pub ReadsHost : Family → List ℕ → Result Host NetworkParseError → Type 0
ReadsHost family text r =
    MatchResult r (IsHostText family text)
    (λ e. IsHostRefused family (address_error family) text e × ((host : Host) → ¬ (IsHostText family text host)))
