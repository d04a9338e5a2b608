-- A network as a string with a mask in place of its prefix length: an address, a slash and the network mask or the host
-- mask, as Python's `ipaddress` has it for IPv4. A string is the list of its bytes.
use Rattle.std.specs.Prelude.{◌≡◌, ◌≢◌, ℕ, ◌-◌, ◌⊎◌, Bool, List, ◌∷◌, ◌++◌, length, drop, Result, MatchResult}
use Rattle.cidr.specs.model.Network.{width_of, zeros, first_of, mask_of}
use Rattle.cidr.specs.texts.AddressText.{IsAddressText}
use Rattle.cidr.specs.texts.NetworkText.{slash}
use Rattle.cidr.specs.texts.PrintedAddress.{address_text}
use Rattle.cidr.specs.texts.Refusal.{Lacks, CutsAtLastSlash, HasAddress}
use Rattle.cidr.specs.declared.family.Family.{Family}
use Rattle.cidr_ext.specs.model.Inside.{host_mask_of, IsMaskOf, IsHostMaskOf}
use Rattle.cidr_ext.specs.declared.mask_text.MaskParseError.{MaskParseError}
use Rattle.cidr_ext.specs.declared.mask_text.MaskParseError.TheVariants.{NoSlash, InvalidAddress, InvalidMask, NonContiguousMask, InvalidHostPart}

-- ---- printing
-- the first address, a slash and the mask
abbrev pub mask_text : Family → List Bool → List ℕ
mask_text family network =
    address_text family (first_of (width_of family) network) ++ slash ∷ address_text family (mask_of (width_of family) network)

-- the first address, a slash and the host mask
abbrev pub host_mask_text : Family → List Bool → List ℕ
host_mask_text family network =
    address_text family (first_of (width_of family) network) ++ slash ∷ address_text family (host_mask_of (width_of family) network)

-- ---- reading
-- the prefix length that a mask stands for: that of a network mask, and of a host mask only where it is no network mask;
-- so all zeros stand for 0, and all ones for the width
abbrev pub IsLengthOfMask : ℕ → ℕ → List Bool → Type 0
IsLengthOfMask w n mask = IsMaskOf w n mask ⊎ (((k : ℕ) → ¬ (IsMaskOf w k mask)) × IsHostMaskOf w n mask)

-- the string represents this network: its first address, a slash and a mask of its length
pub record IsMaskText (family : Family) (text : List ℕ) (network : List Bool) : Type 0 where
  pub front : List ℕ
  pub back : List ℕ
  pub mask : List Bool
  pub spelled : text ≡ front ++ slash ∷ back
  pub front_text : IsAddressText family front (first_of (width_of family) network)
  pub back_text : IsAddressText family back mask
  pub len : IsLengthOfMask (width_of family) (length network) mask

-- before the last slash of the string stands this address, and behind it this one of the family, as a mask
abbrev pub HasMask : Family → List ℕ → List Bool → List Bool → Type 0
HasMask family text address mask = (back : List ℕ) × HasAddress family text back address × IsAddressText family back mask

-- the first error of a string, for addresses of a type that have this family and these bits: no slash; else no address
-- before the last one; else no address of the same family behind it; else one that is no mask; else a set bit after the
-- prefix
abbrev pub IsMaskRefused : {A : Type 0} → (A → Family) → (A → List Bool) → List ℕ → MaskParseError → Type 0
IsMaskRefused {A} family bits text NoSlash = Lacks slash text
IsMaskRefused {A} family bits text InvalidAddress =
    (front back : List ℕ) × CutsAtLastSlash text front back × ((a : A) → ¬ (IsAddressText (family a) front (bits a)))
IsMaskRefused {A} family bits text InvalidMask =
    (a : A) × (back : List ℕ) × HasAddress (family a) text back (bits a)
    × ((m : A) → family m ≡ family a → ¬ (IsAddressText (family a) back (bits m)))
IsMaskRefused {A} family bits text NonContiguousMask =
    (a : A) × (m : List Bool) × HasMask (family a) text (bits a) m × ((n : ℕ) → ¬ (IsLengthOfMask (width_of (family a)) n m))
IsMaskRefused {A} family bits text InvalidHostPart =
    (a : A) × (m : List Bool) × (n : ℕ) × HasMask (family a) text (bits a) m × IsLengthOfMask (width_of (family a)) n m
    × (drop n (bits a) ≢ zeros (width_of (family a) - n))

-- of a string and the result of parsing it: the network that it represents, or the first error; for types of networks
-- and of addresses that have these families and bits
abbrev pub ReadsMaskText : {C A : Type 0} → (C → Family) → (C → List Bool) → (A → Family) → (A → List Bool)
    → List ℕ → Result C MaskParseError → Type 0
ReadsMaskText family prefix address_family bits text r =
    MatchResult r (λ network. IsMaskText (family network) text (prefix network)) (IsMaskRefused address_family bits text)
