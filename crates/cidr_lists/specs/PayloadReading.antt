-- What private functions promise that read files of payloads.
use Rattle.std.specs.Prelude.{◌≡◌, ℕ, Bool, List, ◌++◌, Option, Result, Ok, Err}
use Rattle.std.specs.List.{AllZip}
use Rattle.cidr.specs.declared.family.Family.{Family}
use Rattle.cidr_routes.specs.declared.origins.Payload.{Payload}
use Rattle.cidr_lists.specs.ListLines.{IsTooLong, lines_of}
use Rattle.cidr_lists.specs.PayloadFiles.{IsBadPayload, IsHeader, IsNoHeader, PayloadSays, payload_in, payloads_in, payloads_of}
use Rattle.cidr_lists.specs.RouteErrors.{IsBadRouteBy, IsFirstBadFrom}
use Rattle.cidr_lists.specs.declared.payloads.IpPayload.{IpPayload}
use Rattle.cidr_lists.specs.declared.payloads.PayloadLayout.{PayloadLayout}
use Rattle.cidr_lists.specs.declared.payloads.PayloadLists.{PayloadLists}
use Rattle.cidr_lists.specs.declared.route_errors.RouteListError.{RouteListError}
use Rattle.cidr_lists.specs.declared.route_errors.RouteListError.TheVariants.{Line, NoMemory}

-- further payloads of each family
abbrev pub PayloadsGrow : PayloadLists → PayloadLists → (Family → List (Payload (List Bool))) → Type 0
PayloadsGrow old new more = (family : Family) → payloads_of new family ≡ payloads_of old family ++ more family

-- the layout of a file, or its first line is in error
abbrev pub ReadsHeader : List ℕ → Result PayloadLayout RouteListError → Type 0
ReadsHeader line (Ok layout) = ¬ (IsTooLong line) × IsHeader layout line
ReadsHeader line (Err (Line number e)) = (number ≡ 1) × IsBadRouteBy IsNoHeader line e
ReadsHeader line (Err NoMemory) = Unit {0}

-- the payload that a line says comes behind those before, or the line of this number is in error
abbrev pub AddsPayloadLine : PayloadLayout → List ℕ → ℕ → PayloadLists → PayloadLists → Result (Unit {0}) RouteListError → Type 0
AddsPayloadLine layout line number old new (Ok _) = (said : Option IpPayload) × PayloadSays layout line said × PayloadsGrow old new (λ family. payload_in family said)
AddsPayloadLine layout line number old new (Err (Line n e)) = (n ≡ number) × IsBadPayload layout line e
AddsPayloadLine layout line number old new (Err NoMemory) = Unit {0}

-- the payloads that the lines behind a header say, or the first of them in error
abbrev pub HavePayloadsBehind : PayloadLayout → List ℕ → PayloadLists → Type 0
HavePayloadsBehind layout text lists = (said : List (Option IpPayload)) × AllZip (PayloadSays layout) (lines_of text) said
    × ((family : Family) → payloads_of lists family ≡ payloads_in family said)

abbrev pub IsBehindError : PayloadLayout → List ℕ → RouteListError → Type 0
IsBehindError layout text (Line number e) = IsFirstBadFrom 2 (AllZip (PayloadSays layout)) (IsBadPayload layout) (lines_of text) number e
IsBehindError layout text NoMemory = Unit {0}
