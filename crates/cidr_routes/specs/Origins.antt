-- Route origin validation, by the words of RFC 6811, section 2. A network is the list of its bits.
use Rattle.std.specs.Prelude.{◌≡◌, ◌≢◌, ◌↔◌, ◌⊎◌, ℕ, ◌≤◌, Bool, Contains, List, length, Option, Some}
use Rattle.std.specs.List.Sorted.{IsStrictlySortedBy}
use Rattle.std.specs.Map.{keys_of}
use Rattle.std.specs.Ordering.{nat_cmp, on, then_cmp}
use Rattle.std.specs.declared.cmp.Ordering.{Ordering}
use Rattle.cidr.specs.model.Network.{BeginsWith}
use Rattle.cidr_lookup.specs.declared.table.TableError.{TableError}
use Rattle.cidr_lookup.specs.Rows.{HaveTooManyWords, IsCountRefused}
use Rattle.cidr_lookup.specs.declared.table.TableError.TheVariants.{TooLarge, NoMemory}
use Rattle.cidr_routes.specs.declared.origins.Payload.{Payload}
use Rattle.cidr_routes.specs.declared.origins.Validity.{Validity}
use Rattle.cidr_routes.specs.declared.origins.Validity.TheVariants.{Valid, InvalidLength, InvalidOrigin, NotFound}

-- payloads in the order of their networks, those of one network in that of their greatest lengths, and then of the AS
abbrev pub payload_cmp : {C : Type 0} → (C → C → Ordering) → Payload C → Payload C → Ordering
payload_cmp cmp = then_cmp (on (λ vrp. vrp.network) cmp) (then_cmp (on (λ vrp. vrp.max_length) nat_cmp) (on (λ vrp. vrp.origin) nat_cmp))

-- a route, by its network
module _ {C : Type 0} (bits : C → List Bool) (route : List Bool) where
  -- the payload's network contains the route's, or is the same
  abbrev pub Covers : Payload C → Type 0
  Covers vrp = BeginsWith route (bits vrp.network)

  -- and by the AS that it comes from, if that is one AS
  module _ (origin : Option ℕ) where
    -- the payload is for the AS of the route; one for AS 0 is for none
    abbrev pub IsOfOrigin : Payload C → Type 0
    IsOfOrigin vrp = (origin ≡ Some vrp.origin) × (vrp.origin ≢ 0)

    abbrev pub Matches : Payload C → Type 0
    Matches vrp = Covers vrp × (length route ≤ vrp.max_length) × IsOfOrigin vrp

    -- what these payloads say of the route
    abbrev pub IsValidity : (Payload C → Type 0) → Validity → Type 0
    IsValidity Held Valid = (vrp : Payload C) × Held vrp × Matches vrp
    IsValidity Held InvalidLength =
        ((vrp : Payload C) × Held vrp × Covers vrp × IsOfOrigin vrp) × ((vrp : Payload C) → Held vrp → ¬ (Matches vrp))
    IsValidity Held InvalidOrigin =
        ((vrp : Payload C) × Held vrp × Covers vrp) × ((vrp : Payload C) → Held vrp → Covers vrp → ¬ (IsOfOrigin vrp))
    IsValidity Held NotFound = (vrp : Payload C) → Held vrp → ¬ (Covers vrp)

module _ {C : Type 0} (cmp : C → C → Ordering) where
  -- a row for each network of a payload, once
  pub record AreRowsOf (vrps : List (Payload C)) (rows : List (C × ℕ)) : Type 0 where
    pub once : IsStrictlySortedBy cmp (keys_of rows)
    pub each : (network : C) → ((value : ℕ) × Contains rows (network, value)) ↔ ((vrp : Payload C) × Contains vrps vrp × (vrp.network ≡ network))

  -- why payloads are not made ready: an allocation failed; or their networks are too many, or their look-up table has too many words
  abbrev pub IsRefused : (C → List Bool) → (w padding : ℕ) → (ℕ → ℕ) → List (Payload C) → TableError → Type 0
  IsRefused bits w padding steps vrps error = (error ≡ NoMemory)
      ⊎ ((rows : List (C × ℕ)) × AreRowsOf vrps rows × IsCountRefused (length rows) error
      × (error ≡ TooLarge → HaveTooManyWords bits w padding steps rows))
