-- Prefix lists as Cisco IOS and FRR write them, a row a line: `ip prefix-list NAME seq 5 permit 10.0.0.0/8 ge 16 le 24`, with ipv6 for
-- ip in those of IPv6, where `seq`, `ge` and `le` may be left out; and `no ip prefix-list NAME`, which clears the list (`ip prefix-list`
-- in Cisco's command reference of IP routing; Filtering, IP Prefix List in FRR's user guide).
use Rattle.std.specs.Prelude.{◌≡◌, ◌≢◌, ◌⊎◌, ◌==◌, ◌||◌, ℕ, ◌^◌, ◌<◌, ◌≤◌, Bool, List, [], codes, length, Option, Some, None}
use Rattle.std.specs.List.{before_first}
use Rattle.std.specs.Str.{IsTrimAscii}
use Rattle.cidr.specs.either.IpNetwork.{network_family, network_prefix}
use Rattle.cidr.specs.model.Network.{width_of}
use Rattle.cidr.specs.declared.cidr.combined.IpCidr.{IpCidr}
use Rattle.cidr.specs.declared.family.Family.{Family}
use Rattle.cidr.specs.declared.family.Family.TheVariants.{Ipv4, Ipv6}
use Rattle.cidr_io.specs.Shown.{byte_excerpt}
use Rattle.cidr_lists.specs.Fields.{AreFirstAndRest}
use Rattle.cidr_lists.specs.ListLines.{IsNetworkBy}
use Rattle.cidr_lists.specs.PayloadFiles.{IsBadNetwork}
use Rattle.cidr_lists.specs.Records.{IsCount}
use Rattle.cidr_lists.specs.Rules.{IsActionText, action_text}
use Rattle.cidr_lists.specs.declared.errors.LineError.TheVariants.{NoField}
use Rattle.cidr_lists.specs.declared.lines.HostBits.TheVariants.{Refused}
use Rattle.cidr_lists.specs.declared.prefix_lists.ListChange.{ListChange}
use Rattle.cidr_lists.specs.declared.prefix_lists.ListChange.TheVariants.{AddRow, Clear}
use Rattle.cidr_lists.specs.declared.prefix_lists.ListRow.{ListRow}
use Rattle.cidr_lists.specs.declared.route_errors.RouteError.{RouteError}
use Rattle.cidr_lists.specs.declared.route_errors.RouteError.TheVariants.{Line, NoWord, NoNumber, NoLengths, OtherFamily}

-- ---- words
-- behind a text a word stands, and a number behind that; or it does not begin with the word
abbrev pub OptionSays : List ℕ → List ℕ → Option ℕ → List ℕ → Type 0
OptionSays word text None rest = (rest ≡ text) × (first behind : List ℕ) × AreFirstAndRest text first behind × (first ≢ word)
OptionSays word text (Some n) rest =
    (behind digits : List ℕ) × AreFirstAndRest text word behind × AreFirstAndRest behind digits rest × IsCount digits n × (n < 2 ^ 32)

-- the word of a family, of a list, and of an action
abbrev pub family_word : Family → List ℕ
family_word Ipv4 = codes "ip"
family_word Ipv6 = codes "ipv6"

abbrev pub IsFamilyWord : List ℕ → Type 0
IsFamilyWord word = (family : Family) × (word ≡ family_word family)

abbrev pub IsListWord : List ℕ → Type 0
IsListWord word = word ≡ codes "prefix-list"

-- ---- a row
-- the least prefix length, and the greatest: without `le` that of the network, or behind `ge` the full one
abbrev pub low_of : IpCidr → Option ℕ → ℕ
low_of network None = length (network_prefix network)
low_of network (Some ge) = ge

abbrev pub high_of : IpCidr → Option ℕ → Option ℕ → ℕ
high_of network None None = length (network_prefix network)
high_of network (Some ge) None = width_of (network_family network)
high_of network ge (Some le) = le

abbrev pub AreLengths : IpCidr → ℕ → ℕ → Type 0
AreLengths network low high = (length (network_prefix network) ≤ low) × (low ≤ high) × (high ≤ width_of (network_family network))

-- what stands behind the network says these lengths
abbrev pub LengthsSay : IpCidr → List ℕ → ℕ → ℕ → Type 0
LengthsSay network text low high = (ge le : Option ℕ) × (rest : List ℕ) × OptionSays (codes "ge") text ge rest × OptionSays (codes "le") rest le []
    × (low ≡ low_of network ge) × (high ≡ high_of network ge le) × AreLengths network low high

-- what stands behind the action, behind the name, and behind the word of the list
abbrev pub NetworkSays : Family → List ℕ → ListRow → Type 0
NetworkSays family text row = (word rest : List ℕ) × AreFirstAndRest text word rest × IsNetworkBy Refused word row.network
    × (network_family row.network ≡ family) × LengthsSay row.network rest row.low row.high

abbrev pub ActionSays : Family → List ℕ → ListRow → Type 0
ActionSays family text row = (rest : List ℕ) × AreFirstAndRest text (action_text row.action) rest × NetworkSays family rest row

abbrev pub NumberSays : Family → List ℕ → ListRow → Type 0
NumberSays family text row = (rest : List ℕ) × OptionSays (codes "seq") text row.number rest × ActionSays family rest row

abbrev pub NameSays : Family → List ℕ → ListRow × List ℕ → Type 0
NameSays family text (row, name) = (rest : List ℕ) × AreFirstAndRest text name rest × (name ≢ []) × NumberSays family rest row

-- the line is blank, or a comment, which begins with ! or #
abbrev pub is_mark : ℕ → Bool
is_mark byte = (byte == 33) || (byte == 35)

abbrev pub IsNoRow : List ℕ → Type 0
IsNoRow line = (text : List ℕ) × IsTrimAscii line text × (before_first is_mark text ≡ [])

abbrev pub IsSomeRow : List ℕ → List ℕ → Type 0
IsSomeRow line text = IsTrimAscii line text × (before_first is_mark text ≢ [])

-- the words of a list of a family stand in front
abbrev pub ListWordsSay : List ℕ → Family → List ℕ → Type 0
ListWordsSay text family rest = (behind : List ℕ) × AreFirstAndRest text (family_word family) behind × AreFirstAndRest behind (codes "prefix-list") rest

-- the text says a row of the list of this name; and what stands behind `no` says that the list is cleared
abbrev pub RowSays : List ℕ → ListRow → List ℕ → Type 0
RowSays text row name = (family : Family) × (rest : List ℕ) × ListWordsSay text family rest × NameSays family rest (row, name)

abbrev pub ClearedSays : List ℕ → Family → List ℕ → Type 0
ClearedSays text family name = (rest : List ℕ) × ListWordsSay text family rest × AreFirstAndRest rest name [] × (name ≢ [])

-- what a line says: the list that it is about, if it names one, and what it does to that
abbrev pub CiscoSays : List ℕ → Option (List ℕ) → Option ListChange → Type 0
CiscoSays line None None = IsNoRow line
CiscoSays line (Some name) (Some (AddRow row)) = (text : List ℕ) × IsSomeRow line text × RowSays text row name
CiscoSays line (Some name) (Some (Clear family)) = (text behind : List ℕ) × IsSomeRow line text × AreFirstAndRest text (codes "no") behind
    × ClearedSays behind family name
CiscoSays line list change = ⊥

-- ---- a line in error
-- the word is missing, or a wrong one
abbrev pub IsWordError : List ℕ → RouteError → Type 0
IsWordError word (Line e) = (e ≡ NoField) × (word ≡ [])
IsWordError word (NoWord shown) = (word ≢ []) × (shown.bytes ≡ byte_excerpt word)
IsWordError word e = ⊥

-- it is none of these
abbrev pub IsBadWord : (List ℕ → Type 0) → List ℕ → RouteError → Type 0
IsBadWord Is word e = ¬ (Is word) × IsWordError word e

-- no number stands behind the word: it is missing, or a wrong one
abbrev pub IsNumberError : List ℕ → RouteError → Type 0
IsNumberError digits (Line e) = (e ≡ NoField) × (digits ≡ [])
IsNumberError digits (NoNumber shown) = (digits ≢ []) × (shown.bytes ≡ byte_excerpt digits)
IsNumberError digits e = ⊥

abbrev pub IsBadOption : List ℕ → List ℕ → RouteError → Type 0
IsBadOption word text e = (behind digits rest : List ℕ) × AreFirstAndRest text word behind × AreFirstAndRest behind digits rest
    × ((n : ℕ) → IsCount digits n → 2 ^ 32 ≤ n) × IsNumberError digits e

-- a further word stands there
abbrev pub IsFurther : List ℕ → RouteError → Type 0
IsFurther text (NoWord shown) = (text ≢ []) × (word rest : List ℕ) × AreFirstAndRest text word rest × (shown.bytes ≡ byte_excerpt word)
IsFurther text e = ⊥

-- the lengths are not in order
abbrev pub AreNoLengths : IpCidr → Option ℕ → Option ℕ → List ℕ → RouteError → Type 0
AreNoLengths network ge le text (NoLengths shown) = ¬ (AreLengths network (low_of network ge) (high_of network ge le)) × (shown.bytes ≡ byte_excerpt text)
AreNoLengths network ge le text e = ⊥

abbrev pub AreBadLengths : IpCidr → List ℕ → RouteError → Type 0
AreBadLengths network text e = IsBadOption (codes "ge") text e
    ⊎ ((ge : Option ℕ) × (rest : List ℕ) × OptionSays (codes "ge") text ge rest
    × (IsBadOption (codes "le") rest e
    ⊎ ((le : Option ℕ) × (behind : List ℕ) × OptionSays (codes "le") rest le behind
    × (IsFurther behind e ⊎ ((behind ≡ []) × AreNoLengths network ge le text e)))))

-- the network is of the other family
abbrev pub IsOfOtherFamily : Family → List ℕ → RouteError → Type 0
IsOfOtherFamily family word (OtherFamily shown) =
    (network : IpCidr) × IsNetworkBy Refused word network × (network_family network ≢ family) × (shown.bytes ≡ byte_excerpt word)
IsOfOtherFamily family word e = ⊥

-- the first error of each part, as above
abbrev pub HasBadNetwork : Family → List ℕ → RouteError → Type 0
HasBadNetwork family text e = (word rest : List ℕ) × AreFirstAndRest text word rest
    × (IsBadNetwork word e ⊎ IsOfOtherFamily family word e
    ⊎ ((network : IpCidr) × IsNetworkBy Refused word network × (network_family network ≡ family) × AreBadLengths network rest e))

abbrev pub HasBadAction : Family → List ℕ → RouteError → Type 0
HasBadAction family text e = (word rest : List ℕ) × AreFirstAndRest text word rest
    × (IsBadWord IsActionText word e ⊎ (IsActionText word × HasBadNetwork family rest e))

abbrev pub HasBadNumber : Family → List ℕ → RouteError → Type 0
HasBadNumber family text e = IsBadOption (codes "seq") text e
    ⊎ ((number : Option ℕ) × (rest : List ℕ) × OptionSays (codes "seq") text number rest × HasBadAction family rest e)

abbrev pub HasBadName : Family → List ℕ → RouteError → Type 0
HasBadName family text e = (name rest : List ℕ) × AreFirstAndRest text name rest
    × (((name ≡ []) × (e ≡ Line NoField)) ⊎ ((name ≢ []) × HasBadNumber family rest e))

abbrev pub HasBadListWords : List ℕ → RouteError → Type 0
HasBadListWords text e = (word rest : List ℕ) × AreFirstAndRest text word rest
    × (IsBadWord IsFamilyWord word e
    ⊎ (IsFamilyWord word × (next behind : List ℕ) × AreFirstAndRest rest next behind × IsBadWord IsListWord next e))

abbrev pub HasBadRow : List ℕ → RouteError → Type 0
HasBadRow text e = HasBadListWords text e ⊎ ((family : Family) × (rest : List ℕ) × ListWordsSay text family rest × HasBadName family rest e)

abbrev pub HasBadCleared : List ℕ → RouteError → Type 0
HasBadCleared text e = HasBadListWords text e
    ⊎ ((family : Family) × (rest name behind : List ℕ) × ListWordsSay text family rest × AreFirstAndRest rest name behind
    × (((name ≡ []) × (e ≡ Line NoField)) ⊎ ((name ≢ []) × IsFurther behind e)))

abbrev pub HasBadCiscoWords : List ℕ → RouteError → Type 0
HasBadCiscoWords line e = (text word rest : List ℕ) × IsSomeRow line text × AreFirstAndRest text word rest
    × (((word ≡ codes "no") × HasBadCleared rest e) ⊎ ((word ≢ codes "no") × HasBadRow text e))
