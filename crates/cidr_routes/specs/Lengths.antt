-- The rows of a prefix list that are about networks of one length: what private functions promise each other.
use Rattle.std.specs.Prelude.{◌≡◌, ◌≢◌, ◌↔◌, ◌⊎◌, ℕ, ◌+◌, ◌-◌, ◌<◌, ◌≤◌, ◌&&◌, nat_le, Bool, false, List, [], ◌∷◌, length, cond, Contains, Some, slice_get}
use Rattle.cidr.specs.model.Network.{BeginsWith}
use Rattle.cidr_table.specs.model.Cover.{Covers}
use Rattle.cidr_sets.specs.declared.access.Action.TheVariants.{Permit}
use Rattle.cidr_sets.specs.declared.access.Rule.{Rule}
use Rattle.cidr_routes.specs.PrefixLists.{IsDecidedBy, IsPermitted}
use Rattle.cidr_routes.specs.declared.lists.Row.{Row}

module _ {C : Type 0} (bits : C → List Bool) where
  -- the row is about networks of this length
  abbrev pub IsOfLength : ℕ → Row C → Type 0
  IsOfLength len row = (length (bits row.network) ≤ len) × (row.low ≤ len) × (len ≤ row.high)

  abbrev pub has_length : ℕ → Row C → Bool
  has_length len row = nat_le (length (bits row.network)) len && (nat_le row.low len && nat_le len row.high)

  -- these rows as rules about the addresses
  abbrev pub rules_of : ℕ → List (Row C) → List (Rule C)
  rules_of len [] = []
  rules_of len (row ∷ rows) =
      cond (has_length len row) (record { action = row.action; network = row.network } ∷ rules_of len rows) (rules_of len rows)

  -- the row at an index is the first about none of the networks that are shorter than len bits, or of len bits
  abbrev pub DecidesNoneBelow : ℕ → List (Row C) → ℕ → Type 0
  DecidesNoneBelow len rows i = (p : List Bool) → length p < len → ¬ (IsDecidedBy bits rows p i)

  abbrev pub DecidesNoneOf : ℕ → List (Row C) → ℕ → Type 0
  DecidesNoneOf len rows i = (p : List Bool) → length p ≡ len → ¬ (IsDecidedBy bits rows p i)

  -- a row has no mark exactly where it is the first about none of the networks that are shorter than len bits
  abbrev pub AreMarkedBelow : ℕ → List (Row C) → List Bool → Type 0
  AreMarkedBelow len rows marks = (i : ℕ) → (slice_get marks i ≡ Some false) ↔ ((i < length rows) × DecidesNoneBelow len rows i)

  -- a row of permitted networks, where those of len bits are looked at: it ends before them, if it went on and a network of
  -- them isn't permitted
  pub record IsContinued (w : ℕ) (set : List (List Bool)) (len : ℕ) (row after : Row C) : Type 0 where
    pub action : after.action ≡ row.action
    pub network : after.network ≡ row.network
    pub low : after.low ≡ row.low
    pub high : ((row.high ≡ w) × (¬ (Covers set (bits row.network))) × (after.high ≡ len - 1))
        ⊎ ((after.high ≡ row.high) × ((row.high ≢ w) ⊎ Covers set (bits row.network)))

  -- the same of all rows
  pub record AreContinued (w : ℕ) (set : List (List Bool)) (len : ℕ) (before out : List (Row C)) : Type 0 where
    pub kept : (row : Row C) → Contains before row → (after : Row C) × Contains out after × IsContinued w set len row after
    pub from : (after : Row C) → Contains out after → (row : Row C) × Contains before row × IsContinued w set len row after

  -- the address is in the network of a row that goes on
  abbrev pub IsInOpen : ℕ → List (Row C) → List Bool → Type 0
  IsInOpen w rows a = (row : Row C) × Contains rows row × (row.high ≡ w) × BeginsWith a (bits row.network)

  -- rows that begin with the networks that aren't covered
  abbrev pub IsBegun : ℕ → ℕ → List (Row C) → C → Type 0
  IsBegun w len rows n = (row : Row C) × Contains rows row × (row.network ≡ n) × (row.high ≡ w) × (row.low ≡ len)

  pub record AreBegun (w len : ℕ) (networks : List C) (cover : List (List Bool)) (before out : List (Row C)) : Type 0 where
    pub grown : (row : Row C) → Contains before row → Contains out row
    pub from : (row : Row C) → Contains out row
        → Contains before row ⊎ ((row.action ≡ Permit) × (row.low ≡ len) × (row.high ≡ w) × Contains networks row.network)
    pub added : (n : C) → Contains networks n → Covers cover (bits n) ⊎ IsBegun w len out n

  -- rows of permitted networks so far, where all lengths below len were looked at
  pub record IsSoFar (w len : ℕ) (row : Row C) : Type 0 where
    pub permit : row.action ≡ Permit
    pub inside : length (bits row.network) ≤ row.low
    pub low : row.low < len
    pub some : row.low ≤ row.high
    pub high : (row.high + 1 < len) ⊎ (row.high ≡ w)

  pub record AreSoFar (w : ℕ) (rows : List (Row C)) (len : ℕ) (out : List (Row C)) : Type 0 where
    pub each : (row : Row C) → Contains out row → IsSoFar w len row
    pub same : (p : List Bool) → length p < len → IsPermitted bits out p ↔ IsPermitted bits rows p
