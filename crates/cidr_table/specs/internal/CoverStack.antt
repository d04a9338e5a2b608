-- What the pass over the keys keeps: networks that are their own least cover, and then one more behind them.
use Rattle.std.specs.Prelude.{◌≡◌, ℕ, ◌≤◌, Bool, true, false, List, [], ◌∷◌, ◌++◌, length}
use Rattle.std.specs.List.{Contains}
use Rattle.std.specs.declared.cmp.Ordering.TheVariants.{Less}
use Rattle.cidr.specs.model.Bits.{bit_cmp}
use Rattle.cidr_table.specs.model.Cover.{Covers}
pub use Rattle.cidr_table.specs.model.Cover.{IsReduced}

-- the two halves of one network, the lower first
abbrev pub AreHalvesInOrder : List Bool → List Bool → Type 0
AreHalvesInOrder lower upper = (q : List Bool) × (lower ≡ q ++ false ∷ []) × (upper ≡ q ++ true ∷ [])

-- all networks come before k
abbrev pub AreBefore : List (List Bool) → List Bool → Type 0
AreBefore networks k = (p : List Bool) → Contains networks p → bit_cmp p k ≡ Less

-- such networks, and one behind them that they don't hold, which may be the half of the last
pub record IsPushed (w : ℕ) (networks : List (List Bool)) : Type 0 where
  pub front : List (List Bool)
  pub top : List Bool
  pub whole : networks ≡ front ++ top ∷ []
  pub reduced : IsReduced w front
  pub before : AreBefore front top
  pub apart : ¬ (Covers front top)
  pub within : length top ≤ w
