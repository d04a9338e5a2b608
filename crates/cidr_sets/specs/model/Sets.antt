-- Sets of addresses as lists of networks. A network is the list of the bits that its addresses begin with, and lists of
-- w bits stand for the addresses, where no address is longer. A list of networks is in normal form where it is its own
-- minimal aggregate: ascending, no network in another, and no two the halves of one.
use Rattle.std.specs.Prelude.{◌≡◌, ◌↔◌, ◌⊎◌, ℕ, Bool, List, length}
use Rattle.cidr.specs.model.Network.{BeginsWith}
use Rattle.cidr_table.specs.model.Cover.{Covers}
use Rattle.cidr_table.specs.model.Cover.{IsReduced}

-- the networks are in normal form, and an address is in one of them exactly if it is in the set
pub record IsSetOf (w : ℕ) (IsIn : List Bool → Type 0) (networks : List (List Bool)) : Type 0 where
  pub reduced : IsReduced w networks
  pub exact : (a : List Bool) → length a ≡ w → Covers networks a ↔ IsIn a

-- ---- set algebra
abbrev pub IsUnion : ℕ → List (List Bool) → List (List Bool) → List (List Bool) → Type 0
IsUnion w these those = IsSetOf w (λ a. Covers these a ⊎ Covers those a)

abbrev pub IsIntersection : ℕ → List (List Bool) → List (List Bool) → List (List Bool) → Type 0
IsIntersection w these those = IsSetOf w (λ a. Covers these a × Covers those a)

abbrev pub IsDifference : ℕ → List (List Bool) → List (List Bool) → List (List Bool) → Type 0
IsDifference w these those = IsSetOf w (λ a. Covers these a × ¬ (Covers those a))

-- the addresses that one of the two sets has and the other has not
abbrev pub IsSymmetricDifference : ℕ → List (List Bool) → List (List Bool) → List (List Bool) → Type 0
IsSymmetricDifference w these those =
    IsSetOf w (λ a. (Covers these a × ¬ (Covers those a)) ⊎ (Covers those a × ¬ (Covers these a)))

-- the addresses of the network p that the set has not
abbrev pub IsComplement : ℕ → List Bool → List (List Bool) → List (List Bool) → Type 0
IsComplement w p networks = IsSetOf w (λ a. BeginsWith a p × ¬ (Covers networks a))

-- ---- a set beside a network or another set
-- an address of the network p is in the set
abbrev pub Meets : ℕ → List (List Bool) → List Bool → Type 0
Meets w networks p = (a : List Bool) × (length a ≡ w) × BeginsWith a p × Covers networks a

abbrev pub IsSubset : ℕ → List (List Bool) → List (List Bool) → Type 0
IsSubset w these those = (a : List Bool) → length a ≡ w → Covers these a → Covers those a

abbrev pub AreDisjoint : ℕ → List (List Bool) → List (List Bool) → Type 0
AreDisjoint w these those = (a : List Bool) → length a ≡ w → Covers these a → ¬ (Covers those a)
