-- Files of validated ROA payloads (RFC 6811, 2) as CSV: a header, and behind it a payload a line. Fields, with commas between them, are
-- the AS, the network and the greatest prefix length, as rpki-client, routinator (csv) and Fort write them, or behind the URI of
-- where the payload comes from (csvext of routinator). Further fields play no part.
use Rattle.std.specs.Prelude.{◌≡◌, ◌≢◌, ◌⊎◌, ◌==◌, ◌&&◌, ℕ, ◌+◌, ◌^◌, ◌<◌, ◌≤◌, Bool, if◌then◌else◌, List, [], ◌∷◌, codes, length, map, Option, Some, None}
use Rattle.std.specs.List.{AllZip, flat_map}
use Rattle.cidr.specs.either.IpNetwork.{network_family, network_prefix}
use Rattle.cidr.specs.model.Network.{width_of}
use Rattle.cidr.specs.declared.cidr.combined.IpCidr.{IpCidr}
use Rattle.cidr.specs.declared.family.Family.{Family}
use Rattle.cidr.specs.declared.family.Family.TheVariants.{Ipv4, Ipv6}
use Rattle.cidr_io.specs.Shown.{byte_excerpt}
use Rattle.cidr_routes.specs.declared.origins.Payload.{Payload}
use Rattle.cidr_lists.specs.Fields.{HasFields, HasNoFields, IsFieldOf}
use Rattle.cidr_lists.specs.Forms.{IsBadCell, place_at}
use Rattle.cidr_lists.specs.ListLines.{IsNetworkBy, IsTooLong, lines_of}
use Rattle.cidr_lists.specs.Lists.{line_networks}
use Rattle.cidr_lists.specs.Records.{IsCount}
use Rattle.cidr_lists.specs.RouteErrors.{IsBadRouteBy, IsFirstBadFrom}
use Rattle.cidr_lists.specs.declared.columns.Separator.{Separator}
use Rattle.cidr_lists.specs.declared.columns.Separator.TheVariants.{Byte}
use Rattle.cidr_lists.specs.declared.errors.LineError.TheVariants.{NoField}
use Rattle.cidr_lists.specs.declared.lines.HostBits.TheVariants.{Refused}
use Rattle.cidr_lists.specs.declared.payloads.IpPayload.{IpPayload}
use Rattle.cidr_lists.specs.declared.payloads.PayloadLayout.{PayloadLayout}
use Rattle.cidr_lists.specs.declared.payloads.PayloadLayout.TheVariants.{AsFirst, BehindUri}
use Rattle.cidr_lists.specs.declared.payloads.PayloadLists.{PayloadLists}
use Rattle.cidr_lists.specs.declared.route_errors.RouteError.{RouteError}
use Rattle.cidr_lists.specs.declared.route_errors.RouteError.TheVariants.{Line, NoHeader, NoAs, NoMaxLength}
use Rattle.cidr_lists.specs.declared.route_errors.RouteListError.{RouteListError}
use Rattle.cidr_lists.specs.declared.route_errors.RouteListError.TheVariants as list

-- `b','`
abbrev pub comma : Separator
comma = Byte 44

-- the field at an index, counted from 0
abbrev pub IsCell : ℕ → List ℕ → List ℕ → Type 0
IsCell place line field = IsFieldOf (place_at comma place) line field

-- ---- the header
-- the index of the field of the AS; those of the network and of the greatest length follow it
abbrev pub as_place : PayloadLayout → ℕ
as_place AsFirst = 0
as_place BehindUri = 1

abbrev pub IsHeader : PayloadLayout → List ℕ → Type 0
IsHeader AsFirst line = IsCell 0 line (codes "ASN")
IsHeader BehindUri line = IsCell 0 line (codes "URI") × IsCell 1 line (codes "ASN")

-- ---- a payload
-- the number of an AS, perhaps with the letters AS in front
abbrev pub as_digits : List ℕ → List ℕ
as_digits (a ∷ s ∷ digits) = if (a == 65) && (s == 83) then digits else a ∷ s ∷ digits
as_digits text = text

abbrev pub IsAs : List ℕ → ℕ → Type 0
IsAs text n = IsCount (as_digits text) n × (n < 2 ^ 32)

-- a prefix length from that of the network to the full one (RFC 9582, 4.3.2.2)
abbrev pub IsMaxLength : IpCidr → List ℕ → ℕ → Type 0
IsMaxLength network text n = IsCount text n × (length (network_prefix network) ≤ n) × (n ≤ width_of (network_family network))

-- the fields of the AS, the network and the greatest length of a line that has fields
abbrev pub AreCells : PayloadLayout → List ℕ → List ℕ → List ℕ → List ℕ → Type 0
AreCells layout line origin network most = HasFields comma line × IsCell (as_place layout) line origin
    × IsCell (as_place layout + 1) line network × IsCell (as_place layout + 2) line most

abbrev pub CellsSay : List ℕ → List ℕ → List ℕ → IpPayload → Type 0
CellsSay origin network most said = IsAs origin said.origin × IsNetworkBy Refused network said.network × IsMaxLength said.network most said.max_length

-- the line says nothing, being blank or a comment, or a payload
abbrev pub PayloadFieldsSay : PayloadLayout → List ℕ → Option IpPayload → Type 0
PayloadFieldsSay layout line None = HasNoFields comma line
PayloadFieldsSay layout line (Some said) = (origin network most : List ℕ) × AreCells layout line origin network most × CellsSay origin network most said

-- the same of a line that is not too long
abbrev pub PayloadSays : PayloadLayout → List ℕ → Option IpPayload → Type 0
PayloadSays layout line said = ¬ (IsTooLong line) × PayloadFieldsSay layout line said

-- ---- a line in error
abbrev pub IsBadAs : List ℕ → RouteError → Type 0
IsBadAs text (NoAs shown) = ((n : ℕ) → ¬ (IsAs text n)) × (shown.bytes ≡ byte_excerpt text)
IsBadAs text e = ⊥

abbrev pub IsBadNetwork : List ℕ → RouteError → Type 0
IsBadNetwork text (Line e) = IsBadCell Refused text e
IsBadNetwork text e = ⊥

abbrev pub IsBadMaxLength : IpCidr → List ℕ → RouteError → Type 0
IsBadMaxLength network text (NoMaxLength shown) = ((n : ℕ) → ¬ (IsMaxLength network text n)) × (shown.bytes ≡ byte_excerpt text)
IsBadMaxLength network text e = ⊥

-- the AS is wrong, or else the network, or else the greatest length
abbrev pub AreBadCells : List ℕ → List ℕ → List ℕ → RouteError → Type 0
AreBadCells origin network most e = IsBadAs origin e
    ⊎ ((n : ℕ) × IsAs origin n × IsBadNetwork network e)
    ⊎ ((n : ℕ) × (p : IpCidr) × IsAs origin n × IsNetworkBy Refused network p × IsBadMaxLength p most e)

-- the last of the three fields is missing or empty; or else one is wrong
abbrev pub HasBadCells : PayloadLayout → List ℕ → RouteError → Type 0
HasBadCells layout line e = (origin network most : List ℕ) × AreCells layout line origin network most
    × (((most ≡ []) × (e ≡ Line NoField)) ⊎ ((most ≢ []) × AreBadCells origin network most e))

abbrev pub IsBadPayload : PayloadLayout → List ℕ → RouteError → Type 0
IsBadPayload layout line e = IsBadRouteBy (HasBadCells layout) line e

-- the first line is no header, and this is its first field
abbrev pub IsNoHeader : List ℕ → RouteError → Type 0
IsNoHeader line (NoHeader shown) = ((layout : PayloadLayout) → ¬ (IsHeader layout line)) × (first : List ℕ) × IsCell 0 line first × (shown.bytes ≡ byte_excerpt first)
IsNoHeader line e = ⊥

-- ---- a file
-- its header has this layout, and each line behind it says this
abbrev pub FileSays : PayloadLayout → List (List ℕ) → List (Option IpPayload) → Type 0
FileSays layout [] said = ⊥
FileSays layout (header ∷ lines) said = (¬ (IsTooLong header) × IsHeader layout header) × AllZip (PayloadSays layout) lines said

-- its first line in error, by its number from 1 on: the header, or one behind it
abbrev pub IsFirstBadOf : List (List ℕ) → ℕ → RouteError → Type 0
IsFirstBadOf [] number e = ⊥
IsFirstBadOf (header ∷ lines) number e = ((number ≡ 1) × IsBadRouteBy IsNoHeader header e)
    ⊎ ((layout : PayloadLayout) × (¬ (IsTooLong header) × IsHeader layout header)
    × IsFirstBadFrom 2 (AllZip (PayloadSays layout)) (IsBadPayload layout) lines number e)

-- the payload of a line, if it has one and is of this family
abbrev pub payload_in : Family → Option IpPayload → List (Payload (List Bool))
payload_in family None = []
payload_in family (Some said) =
    map (λ p. record { network = p; max_length = said.max_length; origin = said.origin }) (line_networks family (said.network ∷ []))

-- those of a family that the lines say
abbrev pub payloads_in : Family → List (Option IpPayload) → List (Payload (List Bool))
payloads_in family said = flat_map (payload_in family) said

abbrev pub payloads_of : PayloadLists → Family → List (Payload (List Bool))
payloads_of lists Ipv4 = lists.v4.items
payloads_of lists Ipv6 = lists.v6.items

-- the payloads that a file says
abbrev pub HavePayloads : List ℕ → PayloadLists → Type 0
HavePayloads text lists = (layout : PayloadLayout) × (said : List (Option IpPayload)) × FileSays layout (lines_of text) said
    × ((family : Family) → payloads_of lists family ≡ payloads_in family said)

-- why a file is not read: its first line in error, or memory
abbrev pub IsPayloadsError : List ℕ → RouteListError → Type 0
IsPayloadsError text (list.Line number e) = IsFirstBadOf (lines_of text) number e
IsPayloadsError text list.NoMemory = Unit {0}
