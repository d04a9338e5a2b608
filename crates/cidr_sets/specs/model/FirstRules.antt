-- Access lists. A list of rules is its networks and its actions, in order: of the rules whose networks contain an address,
-- the first decides, and an address that is in none is denied.
use Rattle.std.specs.Prelude.{◌≡◌, ◌↔◌, ◌<◌, ℕ, Bool, List, length, take, Some}
use Rattle.std.specs.List.{Contains, slice_get}
use Rattle.std.specs.List.Sorted.{IsStrictlyIncreasing}
use Rattle.cidr.specs.model.Network.{BeginsWith}
use Rattle.cidr_table.specs.model.Cover.{Covers}
use Rattle.cidr_sets.specs.declared.access.Action.{Action}
use Rattle.cidr_sets.specs.declared.access.Action.TheVariants.{Permit}

-- the network at this index contains the address, and none before it does
abbrev pub IsFirstRule : List (List Bool) → List Bool → ℕ → Type 0
IsFirstRule networks a i = ((p : List Bool) × (slice_get networks i ≡ Some p) × BeginsWith a p) × ¬ (Covers (take i networks) a)

-- the first rule that contains the address permits it
abbrev pub IsPermitted : List (List Bool) → List Action → List Bool → Type 0
IsPermitted networks actions a = (i : ℕ) × IsFirstRule networks a i × (slice_get actions i ≡ Some Permit)

-- the rule at this index is the first of an address of the network p
abbrev pub IsDeciding : ℕ → List (List Bool) → List Bool → ℕ → Type 0
IsDeciding w networks p i = (a : List Bool) × (length a ≡ w) × BeginsWith a p × IsFirstRule networks a i

-- the rule at this index is the first of no address
abbrev pub IsShadowed : ℕ → List (List Bool) → ℕ → Type 0
IsShadowed w networks i = (i < length networks) × ((a : List Bool) → length a ≡ w → ¬ (IsFirstRule networks a i))

-- the rules that decide the addresses of the network of the rule at this index, ascending
pub record AreDecidingRules (w : ℕ) (networks : List (List Bool)) (i : ℕ) (rules : List ℕ) : Type 0 where
  pub exact : (p : List Bool) → slice_get networks i ≡ Some p → (j : ℕ) → Contains rules j ↔ IsDeciding w networks p j
  pub ascending : IsStrictlyIncreasing rules
