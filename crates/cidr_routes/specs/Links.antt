-- From a payload to the last one before it whose network contains its network: what private functions promise each other.
-- Payloads stand in the order of their networks.
use Rattle.std.specs.Prelude.{◌≡◌, ◌≢◌, ℕ, zero, suc, ◌-◌, ◌<◌, ◌≤◌, Bool, List, [], ◌∷◌, slice_get, cond, Contains, Option, Some, None}
use Rattle.std.specs.declared.cmp.Ordering.TheVariants.{Greater}
use Rattle.cidr.specs.model.Bits.{bit_cmp}
use Rattle.cidr.specs.model.Network.{BeginsWith}
use Rattle.cidr_table.specs.internal.Places.{begins_with}
use Rattle.cidr_routes.specs.declared.origins.Payload.{Payload}

module _ {C : Type 0} (bits : C → List Bool) where
  -- no network comes after that of a later payload
  abbrev pub AreOrdered : List (Payload C) → Type 0
  AreOrdered vrps = (j k : ℕ) (u v : Payload C) → j ≤ k → slice_get vrps j ≡ Some u → slice_get vrps k ≡ Some v
      → bit_cmp (bits u.network) (bits v.network) ≢ Greater

  -- where a network contains the asked one, it contains all behind it up to an index
  abbrev pub AreNested : List (Payload C) → List Bool → ℕ → Type 0
  AreNested vrps asked end = (j k : ℕ) (u v : Payload C) → j ≤ k → k < end → slice_get vrps j ≡ Some u → slice_get vrps k ≡ Some v
      → BeginsWith asked (bits u.network) → BeginsWith (bits v.network) (bits u.network)

  -- the network before an index, if there is one, contains the asked one
  abbrev pub CoversLast : List (Payload C) → List Bool → ℕ → Type 0
  CoversLast vrps asked end = (v : Payload C) → 0 < end → slice_get vrps (end - 1) ≡ Some v → BeginsWith asked (bits v.network)

  -- none from an index to another contains it
  abbrev pub NoneCovers : List (Payload C) → List Bool → ℕ → ℕ → Type 0
  NoneCovers vrps asked from to =
      (j : ℕ) (v : Payload C) → from ≤ j → j < to → slice_get vrps j ≡ Some v → ¬ (BeginsWith asked (bits v.network))

  -- how many there are up to the last before an index that contains it, or 0
  pub record IsUpto (vrps : List (Payload C)) (asked : List Bool) (end count : ℕ) : Type 0 where
    pub within : count ≤ end
    pub last : CoversLast vrps asked count
    pub none : NoneCovers vrps asked count end

  -- the same for each payload's own network
  abbrev pub AreLinked : List (Payload C) → List ℕ → Type 0
  AreLinked vrps above =
      (i count : ℕ) (v : Payload C) → slice_get vrps i ≡ Some v → slice_get above i ≡ Some count → IsUpto vrps (bits v.network) i count

  abbrev pub covered_step : List Bool → Option (Payload C) → List (Payload C) → List (Payload C)
  covered_step asked None rest = rest
  covered_step asked (Some v) rest = cond (begins_with asked (bits v.network)) (v ∷ rest) rest

  -- of so many first payloads those that cover the asked network, the last first
  abbrev pub covered : List (Payload C) → List Bool → ℕ → List (Payload C)
  covered vrps asked zero = []
  covered vrps asked (suc n) = covered_step asked (slice_get vrps n) (covered vrps asked n)

module _ {C : Type 0} where
  -- for each network of a payload how many there are up to its last payload
  pub record AreEnds (vrps : List (Payload C)) (rows : List (C × ℕ)) : Type 0 where
    pub each : (j : ℕ) (u : Payload C) → slice_get vrps j ≡ Some u → (l : ℕ) × Contains rows (u.network, l)
    pub row : (n : C) (l : ℕ) → Contains rows (n, l) → (u : Payload C) × (0 < l) × (slice_get vrps (l - 1) ≡ Some u) × (u.network ≡ n)
    pub last : (n : C) (j l : ℕ) (u : Payload C) → Contains rows (n, l) → slice_get vrps j ≡ Some u → u.network ≡ n → j < l
