-- Free networks of a pool, whose definitions are in `Rattle.cidr_sets.specs.model.Pools`.
use Rattle.std.specs.Prelude.{◌≡◌, ◌≢◌, ◌⊎◌, ℕ, ◌+◌, Bool, List, Option, Some, None}
use Rattle.cidr.specs.either.IpNetwork.{any_bits}
use Rattle.cidr_table.specs.model.Cover.{Covers}
use Rattle.cidr_sets.specs.model.Sets.{IsSetOf}
use Rattle.cidr_c.specs.calls.Batches.{AreNetworkValues, bits_in}
use Rattle.cidr_c.specs.model.Codes.{no_memory, no_such, no_value}
use Rattle.cidr_c.specs.model.Values.{IsNetworkValue, network_in}
use Rattle.cidr_c.specs.declared.values.CValue.{CValue}

-- of the set of the addresses of some networks this is free, by the definition of the call; the family bit makes one bit more than
-- the prefix length
abbrev pub IsFreeIn : (List (List Bool) → ℕ → Option (List Bool) → Type 0) → List CValue → ℕ → Option (List Bool) → Type 0
IsFreeIn IsFree networks len free = (set : List (List Bool)) × IsSetOf 129 (Covers (bits_in networks)) set × IsFree set (len + 1) free

-- 0, and the free network; or the number of the error, of a value that is no network and then where none is free, but for that of
-- memory, which may come before it; and then the value that was there stays
pub record IsFreeSought (IsFree : List (List Bool) → ℕ → Option (List Bool) → Type 0) (networks : List CValue) (len : ℕ)
    (old new : CValue) (code : ℕ) : Type 0 where
  pub networks_of : code ≡ 0 → AreNetworkValues networks
  pub value : code ≡ 0 → IsNetworkValue new
  pub free : code ≡ 0 → IsFreeIn IsFree networks len (Some (any_bits (network_in new)))
  pub none : code ≡ no_such → AreNetworkValues networks × IsFreeIn IsFree networks len None
  pub refused : code ≡ no_value → ¬ (AreNetworkValues networks)
  pub codes : (code ≡ 0) ⊎ ((code ≡ no_such) ⊎ ((code ≡ no_value) ⊎ (code ≡ no_memory)))
  pub stays : code ≢ 0 → new ≡ old
