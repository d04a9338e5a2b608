-- Where a network stands among those of a set, as private functions promise it.
use Rattle.std.specs.Prelude.{◌≡◌, ◌⊎◌, ◌+◌, Bool, List, [], ◌∷◌, ◌++◌, length}
use Rattle.std.specs.List.{Contains}
use Rattle.std.specs.declared.cmp.Ordering.TheVariants.{Less}
use Rattle.cidr.specs.model.Bits.{bit_cmp}
use Rattle.cidr.specs.model.Network.{BeginsWith}
use Rattle.cidr_table.specs.internal.CoverStack.{AreHalvesInOrder}
use Rattle.cidr_sets.specs.internal.Steps.{Ascend, IsBehind}

-- of the networks of s these come before p and those behind all that begins with it; the others lie in p
pub record IsParted (s : List (List Bool)) (p : List Bool) (these those : List (List Bool)) : Type 0 where
  pub each : (x : List Bool) → Contains s x → Contains these x ⊎ (BeginsWith x p ⊎ Contains those x)
  pub kept_these : (x : List Bool) → Contains these x → Contains s x
  pub kept_those : (x : List Bool) → Contains those x → Contains s x
  pub before : (x : List Bool) → Contains these x → bit_cmp x p ≡ Less
  pub behind : (x : List Bool) → Contains those x → IsBehind p x
  pub ascend_these : Ascend these
  pub ascend_those : Ascend those

-- one of the two halves of r
abbrev pub IsHalf : List Bool → List Bool → Type 0
IsHalf x r = BeginsWith x r × (length x ≡ length r + 1)

-- a half of r is the last of these or the first of those, and the lists on the right are without it
abbrev pub IsBeside : List Bool → List (List Bool) → List (List Bool) → List (List Bool) → List (List Bool) → Type 0
IsBeside r these those fewer rest =
    ((x : List Bool) × (these ≡ fewer ++ x ∷ []) × IsHalf x r × (rest ≡ those))
    ⊎ ((x : List Bool) × (those ≡ x ∷ rest) × IsHalf x r × (fewer ≡ these))

-- neither the last of these nor the first of those is the other half of a network that q is a half of
abbrev pub IsAlone : List Bool → List (List Bool) → List (List Bool) → Type 0
IsAlone q these those =
    ((front : List (List Bool)) (x : List Bool) → these ≡ front ++ x ∷ [] → ¬ (AreHalvesInOrder x q))
    × ((x : List Bool) (rest : List (List Bool)) → those ≡ x ∷ rest → ¬ (AreHalvesInOrder q x))
