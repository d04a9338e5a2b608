-- What whole lists say, as sets of addresses, and why one is not read.
use Rattle.std.specs.Prelude.{◌≡◌, ℕ, Bool, List, Result, Ok, Err}
use Rattle.cidr.specs.declared.cidr.combined.IpCidr.{IpCidr}
use Rattle.cidr.specs.declared.family.Family.{Family}
use Rattle.cidr_table.specs.model.Cover.{Covers}
use Rattle.cidr_sets.specs.model.Sets.{IsSetOf}
use Rattle.cidr_lists.specs.Lists.{Text, IsFirstError, IsInError, LineSays, ListSays, line_networks, networks_in}
use Rattle.cidr_lists.specs.Reading.{Grows, listed}
use Rattle.cidr_lists.specs.Sets.{networks_of}
use Rattle.cidr_lists.specs.declared.errors.ListError.{ListError}
use Rattle.cidr_lists.specs.declared.errors.ListError.TheVariants.{Line, NoMemory}
use Rattle.cidr_lists.specs.declared.lines.HostBits.{HostBits}
use Rattle.cidr_lists.specs.declared.lists.Lists.{Lists}
use Rattle.cidr_lists.specs.declared.sets.Sets.{Sets}

-- the address is in one of the networks that a list says
abbrev pub SaysAddress : List (List IpCidr) → Family → List Bool → Type 0
SaysAddress said family a = Covers (networks_in family said) a

-- the networks of each family that the lines of a list say, in their order
abbrev pub HaveNetworks : Text → Lists → Type 0
HaveNetworks text lists = (said : List (List IpCidr)) × ListSays text said × ((family : Family) → listed lists family ≡ networks_in family said)

-- the shortest lists of networks that have the addresses that a list says
abbrev pub HaveAddresses : Text → Sets → Type 0
HaveAddresses text sets =
    (said : List (List IpCidr)) × ListSays text said × ((family : Family) → IsSetOf 129 (SaysAddress said family) (networks_of sets family))

-- why a list is not read: its first line in error, or memory
abbrev pub IsListError : Text → ListError → Type 0
IsListError text (Line number e) = IsFirstError text number e
IsListError text NoMemory = Unit {0}

-- ---- what private functions promise
-- the networks that a line says come behind those before, or the line of this number is in error
abbrev pub AddsListLine : HostBits → List ℕ → ℕ → Lists → Lists → Result (Unit {0}) ListError → Type 0
AddsListLine bits line number old new (Ok _) = (said : List IpCidr) × LineSays bits line said × Grows old new (λ family. line_networks family said)
AddsListLine bits line number old new (Err (Line n e)) = (n ≡ number) × IsInError bits line e
AddsListLine bits line number old new (Err NoMemory) = Unit {0}
