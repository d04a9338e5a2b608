-- What is read of a line, and the networks of lists.
use Rattle.std.specs.Prelude.{◌≡◌, ℕ, Bool, List, ◌++◌, Result, MatchResult}
use Rattle.cidr.specs.declared.cidr.combined.IpCidr.{IpCidr}
use Rattle.cidr.specs.declared.family.Family.{Family}
use Rattle.cidr.specs.declared.family.Family.TheVariants.{Ipv4, Ipv6}
use Rattle.cidr_lists.specs.Lists.{IsField, IsContent, IsFieldError, IsNoEndBy, AreContentNetworks, line_networks}
use Rattle.cidr_lists.specs.Records.{EndsAt, HasBadFields, IsCount, IsRecordContent}
use Rattle.cidr_lists.specs.declared.errors.LineError.{LineError}
use Rattle.cidr_lists.specs.declared.errors.LineError.TheVariants.{NoAddress}
use Rattle.cidr_lists.specs.declared.lines.Content.{Content}
use Rattle.cidr_lists.specs.declared.lines.HostBits.{HostBits}
use Rattle.cidr_lists.specs.declared.lines.HostBits.TheVariants.{Refused, Cleared, RefusedWithMasks, ClearedWithMasks}
use Rattle.cidr_lists.specs.declared.lists.Lists.{Lists}
use Rattle.cidr_lists.specs.declared.lines.Content.TheVariants.{Ipv4Range}
use Rattle.cidr_lists.specs.declared.records.ListForm.{ListForm}
use Rattle.cidr_lists.specs.declared.records.ListForm.TheVariants.{Networks, Rir}

-- the string is no address, and this is the error
abbrev pub IsNoEnd : List ℕ → LineError → Type 0
IsNoEnd text (NoAddress bad e) = IsNoEndBy text bad e
IsNoEnd text e = ⊥

-- the same way of reading networks, without masks
abbrev pub without_masks : HostBits → HostBits
without_masks Refused = Refused
without_masks Cleared = Cleared
without_masks RefusedWithMasks = Refused
without_masks ClearedWithMasks = Cleared

-- what a field says, or its error
abbrev pub ReadsField : HostBits → List ℕ → Result Content LineError → Type 0
ReadsField bits field r = MatchResult r (IsContent bits field) (IsFieldError bits field)

-- what the field of a line says, or its error
abbrev pub ReadsLine : HostBits → List ℕ → Result Content LineError → Type 0
ReadsLine bits line r = (field : List ℕ) × IsField line field × ReadsField bits field r

-- what a line of a list of this form says, or its error
abbrev pub ReadsBy : ListForm → List ℕ → Result Content LineError → Type 0
ReadsBy (Networks bits) line r = ReadsLine bits line r
ReadsBy Rir line r = MatchResult r (IsRecordContent line) (HasBadFields line)

-- the last of as many addresses from a first one on as a string says
abbrev pub IsLastBy : List Bool → List ℕ → List Bool → Type 0
IsLastBy first value last = (count : ℕ) × IsCount value count × EndsAt first count last

-- as many addresses from a first one on as a value says
abbrev pub IsBlock : List Bool → List ℕ → Content → Type 0
IsBlock first value (Ipv4Range start last) = (start ≡ first) × IsLastBy first value last
IsBlock first value content = ⊥

-- the networks of a family
abbrev pub listed : Lists → Family → List (List Bool)
listed lists Ipv4 = lists.v4.items
listed lists Ipv6 = lists.v6.items

-- further networks of each family
abbrev pub Grows : Lists → Lists → (Family → List (List Bool)) → Type 0
Grows old new more = (family : Family) → listed new family ≡ listed old family ++ more family

-- the networks of what a line says come behind those before
abbrev pub AddsContent : Content → Lists → Lists → Type 0
AddsContent content old new = (said : List IpCidr) × AreContentNetworks content said × Grows old new (λ family. line_networks family said)
