-- What is printed of the networks of lists, read as a list again.
use Rattle.std.specs.Prelude.{◌≡◌, ℕ, Bool, List, [], ◌∷◌, ◌++◌, ◌≤◌, codes, length, Option, Some, None, IfSome}
use Rattle.std.specs.List.{AllZip, slice_split}
use Rattle.cidr.specs.declared.cidr.combined.IpCidr.{IpCidr}
use Rattle.cidr.specs.declared.family.Family.{Family}
use Rattle.cidr.specs.declared.family.Family.TheVariants.{Ipv4, Ipv6}
use Rattle.cidr.specs.model.Network.{width_of}
use Rattle.cidr.specs.either.IpAddress.{IsIpAddress, IsIpText, address_family}
use Rattle.cidr.specs.texts.NetworkText.{IsNetworkText}
use Rattle.cidr.specs.texts.Refusal.{Lacks}
use Rattle.cidr_table.specs.model.Cover.{AreNetworks}
use Rattle.cidr_sets.specs.model.Sets.{IsSetOf}
use Rattle.cidr_lists.specs.Changes.{sign_text}
use Rattle.cidr_lists.specs.Combining.{SomeHas}
use Rattle.cidr_lists.specs.Json.{IsStringText, quote}
use Rattle.cidr_lists.specs.LookUps.{LookUp}
use Rattle.cidr_lists.specs.Lists.{Text, ListSays, is_line_feed, networks_in}
use Rattle.cidr_lists.specs.Texts.{SaysAddress}
use Rattle.cidr_lists.specs.declared.changes.Sign.{Sign}

-- none has more bits than an address of its family
abbrev pub AreOfFamilies : (Family → List (List Bool)) → Type 0
AreOfFamilies networks = (family : Family) → AreNetworks (width_of family) (networks family)

-- no line of the list is in error, and these are the networks of each family that its lines say, in their order
abbrev pub SaysJust : Text → (Family → List (List Bool)) → Type 0
SaysJust text networks = ((said : List (List IpCidr)) × ListSays text said)
    × ((said : List (List IpCidr)) → ListSays text said → (family : Family) → networks_in family said ≡ networks family)

-- of each family the shortest list of networks that has the addresses of all the lists
abbrev pub AreUnions : List (List (List IpCidr)) → (Family → List (List Bool)) → Type 0
AreUnions lists networks = (family : Family) → IsSetOf 129 (SomeHas SaysAddress lists family) (networks family)

-- ---- JSON
-- the object begins so, and the string behind it, which ends at the next quote, represents this network
abbrev pub TellsBehind : List ℕ → Family → List ℕ → List Bool → Type 0
TellsBehind front family object p = (text : List ℕ) × (rest : List ℕ) × (object ≡ front ++ (text ++ quote ∷ rest))
    × Lacks quote text × IsNetworkText family text p

-- the first member of the object is "network"
abbrev pub ObjectTells : Family → List ℕ → List Bool → Type 0
ObjectTells family object p = TellsBehind (codes "{\"network\":\"") family object p

-- the first member is "change", whose string is the sign, and the second one is "network"
abbrev pub ChangeTells : Family → List ℕ → Sign × List Bool → Type 0
ChangeTells family object (sign, p) = TellsBehind (codes "{\"change\":\"" ++ (sign_text sign ++ codes "\",\"network\":\"")) family object p

-- the first member is "address", whose string, which ends at the next quote, represents the address that was looked up; the
-- second one is "value", whose string says the value of its network, and the third one "network"; or both are null
abbrev pub FoundTells : Family → List ℕ → List ℕ → Option (List Bool × List ℕ) → Type 0
FoundTells family object address None = object ≡ codes "{\"address\":\"" ++ (address ++ codes "\",\"value\":null,\"network\":null}")
FoundTells family object address (Some (p, value)) = (text : List ℕ) × IsStringText text value
    × TellsBehind (codes "{\"address\":\"" ++ (address ++ (codes "\",\"value\":\"" ++ (text ++ codes "\",\"network\":\"")))) family object p

abbrev pub LookTells : List ℕ → LookUp → Type 0
LookTells object look = (address : List ℕ) × Lacks quote address × IsIpText address look.address
    × FoundTells (address_family look.address) object address look.found

-- it is an address, and its network has no more bits
abbrev pub IsLookUp : LookUp → Type 0
IsLookUp look = IsIpAddress look.address × IfSome look.found (λ (row : List Bool × List ℕ). length row.0 ≤ width_of (address_family look.address))

-- the lines of a text are objects that tell these, and behind the last line feed there is nothing
abbrev pub TellsLooks : List ℕ → List LookUp → Type 0
TellsLooks text looks =
    (objects : List (List ℕ)) × (slice_split is_line_feed text ≡ objects ++ [] ∷ []) × AllZip LookTells objects looks

-- the lines of a text are objects that tell these, IPv4 before IPv6, and behind the last line feed there is nothing
abbrev pub TellsJust : {X : Type 0} → (Family → List ℕ → X → Type 0) → List ℕ → (Family → List X) → Type 0
TellsJust Tells text told = (four : List (List ℕ)) × (six : List (List ℕ)) × (slice_split is_line_feed text ≡ four ++ (six ++ [] ∷ []))
    × AllZip (Tells Ipv4) four (told Ipv4) × AllZip (Tells Ipv6) six (told Ipv6)
