-- A table loaded from a list of prefixes, each written as prefix bytes (RFC 4271, 4.3), one after the other to the end.
-- w is the number of bits of an address, and the index of a prefix in the list is counted from 0.
use Rattle.std.specs.Prelude.{◌≡◌, ◌≢◌, ◌↔◌, ℕ, ◌+◌, ◌≤◌, Bool, List, [], ◌∷◌, ◌++◌, length, Contains, slice_get, Some, Result, MatchResult}
use Rattle.cidr.specs.bytes.Prefix.{SpellsPrefix, IsPrefixRefused}
use Rattle.cidr_table.specs.model.FiniteMap.{StoredRows}
use Rattle.cidr_table.specs.declared.table.load.LoadError.{LoadError}
use Rattle.cidr_table.specs.declared.table.load.LoadError.TheVariants.{Prefix, NoMemory}

-- the key stands in the list at this index, and at no later one
pub record IsLastPlace {C : Type 0} (keys : List C) (key : C) (index : ℕ) : Type 0 where
  pub here : slice_get keys index ≡ Some key
  pub last : (other : ℕ) → slice_get keys other ≡ Some key → other ≤ index

module _ {C : Type 0} (bits : C → List Bool) (w : ℕ) where
  -- the input is these prefixes one after the other, and then the rest
  abbrev pub IsListed : List C → List ℕ → List ℕ → Type 0
  IsListed [] rest input = input ≡ rest
  IsListed (key ∷ keys) rest input =
      (bytes : List ℕ) × (behind : List ℕ) × (input ≡ bytes ++ behind) × SpellsPrefix w bytes (bits key) × IsListed keys rest behind

  -- the rows of the table: each prefix of the list with its last index
  abbrev pub HasLastPlaces : List ℕ → List (C × ℕ) → Type 0
  HasLastPlaces input rows = (keys : List C) × IsListed keys [] input × ((row : C × ℕ) → Contains rows row ↔ IsLastPlace keys row.0 row.1)

  -- the first failure: after as many prefixes as the index says, bytes that begin with none; and for want of memory
  -- only where the input begins with a prefix
  abbrev pub IsLoadRefused : List ℕ → LoadError → Type 0
  IsLoadRefused input (Prefix index e) =
      (keys : List C) × (rest : List ℕ) × IsListed keys rest input × (length keys ≡ index) × (rest ≢ []) × IsPrefixRefused w rest e
  IsLoadRefused input NoMemory = (key : C) × (rest : List ℕ) × IsListed (key ∷ []) rest input

  -- the result of loading: the rows, or the first failure
  abbrev pub IsLoaded : List ℕ → Result (StoredRows C ℕ) LoadError → Type 0
  IsLoaded input r = MatchResult r (λ table. HasLastPlaces input table.rows) (IsLoadRefused input)

-- ---- what private functions promise each other
-- the keys with their indexes, the first of which is n
abbrev pub placed : {C : Type 0} → ℕ → List C → List (C × ℕ)
placed n [] = []
placed n (key ∷ keys) = (key, n) ∷ placed (n + 1) keys

-- the prefixes up to the end, each with its index
abbrev pub ArePlacedPrefixes : {C : Type 0} → (C → List Bool) → ℕ → List ℕ → List (C × ℕ) → Type 0
ArePlacedPrefixes {C} bits w input rows = (keys : List C) × IsListed bits w keys [] input × (rows ≡ placed 0 keys)

-- of the rows of one key that with the greatest index
abbrev pub AreLast : {C : Type 0} → List (C × ℕ) → List (C × ℕ) → Type 0
AreLast {C} old new = (row : C × ℕ) → Contains new row ↔ (Contains old row × ((other : C × ℕ) → Contains old other → other.0 ≡ row.0 → other.1 ≤ row.1))
