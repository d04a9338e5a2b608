-- What lies in sets of addresses: networks, addresses, and the words of a line. `IsIn` tells the addresses of a set.
use Rattle.std.specs.Prelude.{◌≡◌, ℕ, Bool, List, length, Option, Some, None, Contains}
use Rattle.cidr.specs.either.IpNetwork.{network_family, network_prefix}
use Rattle.cidr.specs.model.Network.{BeginsWith}
use Rattle.cidr.specs.texts.AddressText.{IsAddressText}
use Rattle.cidr.specs.declared.cidr.combined.IpCidr.{IpCidr}
use Rattle.cidr.specs.declared.family.Family.{Family}
use Rattle.cidr_lists.specs.Printing.{line}
use Rattle.cidr_lists.specs.Words.{words_of, IsBare}

-- ---- which lines are picked; `IsIn` tells the addresses of the list
-- all addresses of the family that begin with these bits are in the list
abbrev pub AreWithin : (Family → List Bool → Type 0) → Family → List Bool → Type 0
AreWithin IsIn family prefix = (a : List Bool) → length a ≡ 129 → BeginsWith a prefix → IsIn family a

-- the network has only addresses of the list
abbrev pub IsWithin : (Family → List Bool → Type 0) → IpCidr → Type 0
IsWithin IsIn network = AreWithin IsIn (network_family network) (network_prefix network)

-- there is a network, and it has only addresses of the list
abbrev pub LiesIn : (Family → List Bool → Type 0) → Option IpCidr → Type 0
LiesIn IsIn None = ⊥
LiesIn IsIn (Some network) = IsWithin IsIn network

-- the string is an address of this family, and it is in the list
abbrev pub IsOneIn : (Family → List Bool → Type 0) → Family → List ℕ → Type 0
IsOneIn IsIn family text = (address : List Bool) × IsAddressText family text address × AreWithin IsIn family address

-- the word is one of this family, with or without punctuation behind it
abbrev pub WordIsOneIn : (Family → List Bool → Type 0) → Family → List ℕ → Type 0
WordIsOneIn IsIn family word = (text : List ℕ) × IsBare word text × IsOneIn IsIn family text

-- a word of the line is one of this family
abbrev pub LineHasOneIn : (Family → List Bool → Type 0) → Family → List ℕ → Type 0
LineHasOneIn IsIn family line = (word : List ℕ) × Contains (words_of family line) word × WordIsOneIn IsIn family word

-- the line has an address of the list anywhere
abbrev pub HasOneIn : (Family → List Bool → Type 0) → List ℕ → Type 0
HasOneIn IsIn line = (family : Family) × LineHasOneIn IsIn family line
