-- Where two lists of rows forward differently. A network is the list of the bits that its addresses begin with, and a row
-- is a network with a value. Which lists of bits are the addresses is for the caller to say.
use Rattle.std.specs.Prelude.{◌≡◌, ◌≢◌, Bool, List, [], ◌∷◌, ◌++◌, Option}
use Rattle.std.specs.List.{Contains}
use Rattle.std.specs.List.Sorted.{IsStrictlySortedBy}
use Rattle.std.specs.Map.{keys_of}
use Rattle.cidr.specs.model.Bits.{bit_cmp}
use Rattle.cidr.specs.model.Network.{BeginsWith}
use Rattle.cidr_table.specs.model.Prefixes.{IsValueLookedUp}

module _ {V : Type 0} (these those : List (List Bool × V)) where
  -- the answers for an address: its value in these rows and that in those, or none
  abbrev pub AreAnswers : List Bool → Option V × Option V → Type 0
  AreAnswers a answers = IsValueLookedUp (λ p. p) a these answers.0 × IsValueLookedUp (λ p. p) a those answers.1

  module _ (IsAddress : List Bool → Type 0) where
    -- they are the answers for each address of a network
    abbrev pub AreThroughout : List Bool → Option V × Option V → Type 0
    AreThroughout network answers = (a : List Bool) → IsAddress a → BeginsWith a network → AreAnswers a answers

    -- the largest networks with the same answers throughout, of those where the two answers differ
    pub record AreDifferences (listed : List (List Bool × (Option V × Option V))) : Type 0 where
      pub ascending : IsStrictlySortedBy bit_cmp (keys_of listed)
      pub differ : (row : List Bool × (Option V × Option V)) → Contains listed row → (row.1.0 ≢ row.1.1) × AreThroughout row.0 row.1
      pub complete : (a : List Bool) → IsAddress a → (answers : Option V × Option V) → AreAnswers a answers → answers.0 ≢ answers.1
          → (network : List Bool) × BeginsWith a network × Contains listed (network, answers)
      pub apart : (a : List Bool) (row other : List Bool × (Option V × Option V)) → Contains listed row → Contains listed other
          → BeginsWith a row.0 → BeginsWith a other.0 → row ≡ other
      pub largest : (network : List Bool) (b : Bool) (answers : Option V × Option V) → Contains listed (network ++ b ∷ [], answers)
          → ¬ (AreThroughout network answers)
