-- What a table forwards, and the smallest table with the same forwarding (Draves, King, Venkatachary and Zill,
-- "Constructing Optimal IP Routing Tables", INFOCOM 1999). A network is the list of the bits that its addresses begin
-- with, and a row is a network with a value. Which lists of bits are the addresses is for the caller to say.
use Rattle.std.specs.Prelude.{◌≡◌, ◌↔◌, ℕ, ◌≤◌, Bool, List, [], ◌∷◌, length, Option, Some, None}
use Rattle.std.specs.List.{Contains}
use Rattle.std.specs.List.Sorted.{IsStrictlySortedBy}
use Rattle.std.specs.Map.{keys_of}
use Rattle.cidr.specs.model.Bits.{bit_cmp}
use Rattle.cidr_table.specs.model.CoverAddresses.{IsIpNetworkBits}
use Rattle.cidr_table.specs.model.Prefixes.{IsValueLookedUp}

-- the value of a row that may be a hole: none where there is no row or where it is a hole
abbrev pub row_value : {V : Type 0} → Option (Option V) → Option V
row_value None = None
row_value (Some value) = value

module _ {C V : Type 0} (bits : C → List Bool) where
  -- rows of networks of addresses of w bits, and of both families
  abbrev pub AreNetworksOf : ℕ → List (C × V) → Type 0
  AreNetworksOf w rows = (row : C × V) → Contains rows row → length (bits row.0) ≤ w

  abbrev pub AreIpRows : List (C × V) → Type 0
  AreIpRows rows = (row : C × V) → Contains rows row → IsIpNetworkBits (bits row.0)

  -- the rows as rows of lists of bits
  abbrev pub in_bits : List (C × V) → List (List Bool × V)
  in_bits [] = []
  in_bits (row ∷ rows) = (bits row.0, row.1) ∷ in_bits rows

  module _ (IsAddress : List Bool → Type 0) where
    -- each address has the same value in both, or in neither one
    abbrev pub ForwardSame : List (C × V) → List (C × V) → Type 0
    ForwardSame these those = (a : List Bool) → IsAddress a
        → (value : Option V) → IsValueLookedUp bits a these value ↔ IsValueLookedUp bits a those value

    -- the same where the other rows may be holes, which say that their addresses have no value
    abbrev pub ForwardSameHoled : List (C × V) → List (C × Option V) → Type 0
    ForwardSameHoled rows holed = (a : List Bool) → IsAddress a → (value : Option V)
        → IsValueLookedUp bits a rows value
        ↔ ((found : Option (Option V)) × IsValueLookedUp bits a holed found × (value ≡ row_value found))

module _ {V : Type 0} (IsAddress : List Bool → Type 0) where
  -- the same forwarding in ascending rows, and in no fewer rows is there the same
  pub record IsSmallest (rows smallest : List (List Bool × V)) : Type 0 where
    pub ascending : IsStrictlySortedBy bit_cmp (keys_of smallest)
    pub same : ForwardSame (λ p. p) IsAddress rows smallest
    pub fewest : (other : List (List Bool × V)) → ForwardSame (λ p. p) IsAddress rows other → length smallest ≤ length other

  -- the same forwarding in ascending rows and holes, and in no fewer rows and holes is there the same
  pub record IsSmallestHoled (rows : List (List Bool × V)) (smallest : List (List Bool × Option V)) : Type 0 where
    pub ascending : IsStrictlySortedBy bit_cmp (keys_of smallest)
    pub same : ForwardSameHoled (λ p. p) IsAddress rows smallest
    pub fewest : (other : List (List Bool × Option V)) → ForwardSameHoled (λ p. p) IsAddress rows other → length smallest ≤ length other
