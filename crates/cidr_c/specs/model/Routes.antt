-- Origins of routes and prefix lists, whose definitions are `Origins` and `PrefixLists` of `Rattle.cidr_routes.specs`. A network of either
-- family has the bit of its family in front, so that each length is one more.
use Rattle.std.specs.Prelude.{◌≡◌, ◌⊎◌, ℕ, ◌+◌, ◌^◌, ◌==◌, nat_lt, if◌then◌else◌, List, All, Contains, map, Option, Some, None}
use Rattle.cidr.specs.either.IpNetwork.{any_bits}
use Rattle.cidr.specs.declared.cidr.any.AnyIpCidr.{AnyIpCidr}
use Rattle.cidr_sets.specs.declared.access.Action.{Action}
use Rattle.cidr_sets.specs.declared.access.Action.TheVariants.{Deny, Permit}
use Rattle.cidr_routes.specs.Origins.{IsValidity}
use Rattle.cidr_routes.specs.declared.lists.Row.{Row}
use Rattle.cidr_routes.specs.declared.origins.Payload.{Payload}
use Rattle.cidr_routes.specs.declared.origins.Validity.{Validity}
use Rattle.cidr_routes.specs.declared.origins.Validity.TheVariants.{Valid, InvalidLength, InvalidOrigin, NotFound}
use Rattle.cidr_c.specs.model.Values.{IsNetworkValue, network_in}
use Rattle.cidr_c.specs.declared.routes.CPayload.{CPayload}
use Rattle.cidr_c.specs.declared.routes.CPrefixRow.{CPrefixRow}
use Rattle.cidr_c.specs.declared.values.CValue.{CValue}

-- ---- origins
-- each payload is for a network
abbrev pub ArePayloads : List CPayload → Type 0
ArePayloads payloads = All (λ p. IsNetworkValue p.network) payloads

abbrev pub payload_in : CPayload → Payload AnyIpCidr
payload_in p = record { network = network_in p.network; max_length = p.max_length + 1; origin = p.origin }

-- the AS of a route: a number from 2^32 on stands for none
abbrev pub origin_in : ℕ → Option ℕ
origin_in n = if nat_lt n (2 ^ 32) then Some n else None

abbrev pub validity_code : Validity → ℕ
validity_code Valid = 1
validity_code InvalidLength = 2
validity_code InvalidOrigin = 3
validity_code NotFound = 4

-- the answer that fits, or 0 where a value is no network
abbrev pub TellsValidity : List CPayload → CValue → ℕ → ℕ → Type 0
TellsValidity payloads route origin code = ((code ≡ 0) × ¬ (ArePayloads payloads × IsNetworkValue route))
    ⊎ (ArePayloads payloads × IsNetworkValue route × (validity : Validity) × (code ≡ validity_code validity)
    × IsValidity any_bits (any_bits (network_in route)) (origin_in origin) (Contains (map payload_in payloads)) validity)

-- ---- prefix lists
-- each row has a network
abbrev pub ArePrefixRows : List CPrefixRow → Type 0
ArePrefixRows rows = All (λ r. IsNetworkValue r.network) rows

-- 1 permits, and any other number denies
abbrev pub row_action : CPrefixRow → Action
row_action r = if r.action == 1 then Permit else Deny

abbrev pub row_in : CPrefixRow → Row AnyIpCidr
row_in r = record { action = row_action r; network = network_in r.network; low = r.low + 1; high = r.high + 1 }
