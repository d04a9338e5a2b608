-- Networks as the nodes of a binary tree. A network is the list of the bits that its addresses begin with, and its two
-- halves have one bit more (RFC 4632, 3.1).
use Rattle.std.specs.Prelude.{◌≡◌, ℕ, ◌≤◌, not, Bool, List, [], ◌∷◌, ◌++◌, length}
use Rattle.cidr.specs.model.Network.{BeginsWith}

-- one bit longer than the parent, with whose bits it begins
abbrev pub IsHalfOf : List Bool → List Bool → Type 0
IsHalfOf network parent = (b : Bool) × (network ≡ parent ++ b ∷ [])

-- the two halves of one network, in either order: they differ in the last bit alone
abbrev pub AreSiblings : List Bool → List Bool → Type 0
AreSiblings one other = (parent : List Bool) × (b : Bool) × (one ≡ parent ++ b ∷ []) × (other ≡ parent ++ not b ∷ [])

-- the network of n bits that contains this one
abbrev pub IsSupernet : ℕ → List Bool → List Bool → Type 0
IsSupernet n network wider = (length wider ≡ n) × BeginsWith network wider

-- an address of w bits is in both networks
abbrev pub HaveCommon : ℕ → List Bool → List Bool → Type 0
HaveCommon w one other = (a : List Bool) × (length a ≡ w) × BeginsWith a one × BeginsWith a other

-- the longest network that contains both: of those that do, none has more bits
pub record IsSpanning (one other span : List Bool) : Type 0 where
  pub first : BeginsWith one span
  pub second : BeginsWith other span
  pub longest : (wider : List Bool) → BeginsWith one wider → BeginsWith other wider → length wider ≤ length span
