-- The error of a string that represents no network: the first one, in the order address, prefix length, range of the
-- prefix length, set bit after the prefix (the crate `cidr`).
use Rattle.std.specs.Prelude.{◌≡◌, ◌≢◌, ℕ, ◌-◌, ◌<◌, ◌≤◌, ◌⊎◌, Bool, List, ◌∷◌, ◌++◌, length, drop, slice_index, Result, MatchResult}
use Rattle.cidr.specs.model.Network.{width_of, zeros, too_long}
use Rattle.cidr.specs.texts.AddressText.{IsAddressText, address_error}
use Rattle.cidr.specs.texts.NetworkText.{slash, IsLengthText, IsNetworkText}
use Rattle.cidr.specs.declared.family.Family.{Family}
use Rattle.cidr.specs.model.Errors.{AddressError}
use Rattle.cidr.specs.declared.errors.NetworkParseError.{NetworkParseError}
use Rattle.cidr.specs.declared.errors.NetworkParseError.TheVariants as parse_error

-- the byte stands nowhere in the string
abbrev pub Lacks : ℕ → List ℕ → Type 0
Lacks c text = (i : ℕ) → i < length text → slice_index text i ≢ c

-- the parts of a string before and after its last slash
abbrev pub CutsAtLastSlash : List ℕ → List ℕ → List ℕ → Type 0
CutsAtLastSlash text front back = (text ≡ front ++ slash ∷ back) × Lacks slash back

-- the part of a string that is parsed as the address: what stands before the last slash, or all where there is no slash
abbrev pub IsAddressPart : List ℕ → List ℕ → Type 0
IsAddressPart text part = (Lacks slash text × (part ≡ text)) ⊎ ((back : List ℕ) × CutsAtLastSlash text part back)

-- the string has a slash; after the last one comes this part, and before it this address
pub record HasAddress (family : Family) (text : List ℕ) (back : List ℕ) (address : List Bool) : Type 0 where
  pub front : List ℕ
  pub cut : CutsAtLastSlash text front back
  pub front_text : IsAddressText family front address

-- the first error, where `error` is that of an address: no address; else no prefix length after the slash; else a
-- length above the width; else a set bit after the prefix
abbrev pub IsRefused : Family → AddressError → List ℕ → NetworkParseError → Type 0
IsRefused family error text (parse_error.AddrParseError e) =
    (e ≡ error) × (part : List ℕ) × IsAddressPart text part × ((a : List Bool) → ¬ (IsAddressText family part a))
IsRefused family error text (parse_error.NetworkLengthParseError e) =
    (back : List ℕ) × (a : List Bool) × HasAddress family text back a × ((n : ℕ) → ¬ (IsLengthText back n))
IsRefused family error text (parse_error.NetworkLengthTooLongError e) =
    (back : List ℕ) × (a : List Bool) × (n : ℕ) × HasAddress family text back a × IsLengthText back n
    × (width_of family < n) × (e ≡ too_long n family)
IsRefused family error text parse_error.InvalidHostPart =
    (back : List ℕ) × (a : List Bool) × (n : ℕ) × HasAddress family text back a × IsLengthText back n
    × (n ≤ width_of family) × (drop n a ≢ zeros (width_of family - n))

-- of a string and the result of parsing it: the network that it represents; or the first error, and then it represents
-- no network
abbrev pub ReadsNetwork : Family → List ℕ → Result (List Bool) NetworkParseError → Type 0
ReadsNetwork family text r =
    MatchResult r (IsNetworkText family text)
    (λ e. IsRefused family (address_error family) text e × ((p : List Bool) → ¬ (IsNetworkText family text p)))
