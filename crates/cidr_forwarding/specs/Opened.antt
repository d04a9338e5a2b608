-- What the rows of a network are: none longer, those of one network inside, or those of its halves.
use Rattle.std.specs.Prelude.{◌≡◌, ℕ, ◌+◌, ◌<◌, ◌≤◌, Bool, false, true, List, [], ◌∷◌, ◌++◌, length, take, Option}
use Rattle.cidr_forwarding.specs.Trees.{Even, Halves, IsOfHalves}
use Rattle.cidr_forwarding.specs.Choices.{Sole, Fork, Chain}
use Rattle.cidr_forwarding.specs.Plans.{planned, measured, IsNode, AreDeep, AreOf, behind, choices, put_rows, fill_rows}
use Rattle.cidr_forwarding.specs.declared.halves.Opened.{Opened}
use Rattle.cidr_forwarding.specs.declared.halves.Opened.TheVariants.{Ended, Narrowed, Parted}
use Rattle.cidr_forwarding.specs.declared.halves.Halved.{Halved}

module _ {C V : Type 0} (bits : C → List Bool) where
  module _ (eq : V → V → Bool) (holes : Bool) (depth : ℕ) (inherited : Option V) (rows : List (C × V)) where
    -- one value
    pub record IsEnded (own : Option V) : Type 0 where
      pub plan : planned bits depth inherited rows ≡ Even own
      pub only : choices eq holes (planned bits depth inherited rows) ≡ own ∷ []
      pub left : measured bits eq holes depth inherited rows ≡ Sole own

    -- the rows of the network of `inside` bits, which are `more` behind those of this one
    pub record IsNarrowed (own : Option V) (key : C) (rest : List (C × V)) (inside : ℕ) : Type 0 where
      pub more : List Bool
      pub long : inside ≡ depth + length more
      pub two : 2 ≤ length more
      pub within : inside ≤ 129
      pub key_of : (q : List Bool) → length q ≡ depth → AreOf bits q rows → take inside (bits key) ≡ q ++ more
      pub node : IsNode bits inside rest
      pub of : (q : List Bool) → length q ≡ depth → AreOf bits q rows → AreOf bits (q ++ more) rest
      pub only : choices eq holes (planned bits depth inherited rows) ≡ own ∷ []
      pub filled : fill_rows eq holes (planned bits depth inherited rows) own ≡ behind more (put_rows eq holes (planned bits inside own rest) own)
      pub left : measured bits eq holes depth inherited rows ≡ Chain own (measured bits eq holes inside own rest)

    -- the rows of both halves, and a key that is longer
    pub record IsParted (own : Option V) (key : C) (lower upper : List (C × V)) : Type 0 where
      pub small : depth < 129
      pub long : depth < length (bits key)
      pub key_of : (q : List Bool) → length q ≡ depth → AreOf bits q rows → take depth (bits key) ≡ q
      pub low_node : IsNode bits (depth + 1) lower
      pub high_node : IsNode bits (depth + 1) upper
      pub low_of : (q : List Bool) → length q ≡ depth → AreOf bits q rows → AreOf bits (q ++ false ∷ []) lower
      pub high_of : (q : List Bool) → length q ≡ depth → AreOf bits q rows → AreOf bits (q ++ true ∷ []) upper
      pub plan : planned bits depth inherited rows ≡ Halves (planned bits (depth + 1) own lower) (planned bits (depth + 1) own upper)
      pub left : measured bits eq holes depth inherited rows
          ≡ Fork (choices eq holes (planned bits depth inherited rows)) (measured bits eq holes (depth + 1) own lower) (measured bits eq holes (depth + 1) own upper)

    abbrev pub IsOpened : Opened C V → Type 0
    IsOpened (Ended own) = IsEnded own
    IsOpened (Narrowed own key rest inside) = IsNarrowed own key rest.now inside
    IsOpened (Parted own key lower upper) = IsParted own key lower.now upper.now

  -- the rows by halves, also where none is longer
  pub record IsHalved (depth : ℕ) (inherited : Option V) (rows : List (C × V)) (halved : Halved C V) : Type 0 where
    pub ended : length halved.rest.now ≤ 0 → planned bits depth inherited rows ≡ Even halved.own
    pub node : IsNode bits depth halved.rest.now
    pub deep : AreDeep bits depth halved.rest.now
    pub of : (q : List Bool) → AreOf bits q rows → AreOf bits q halved.rest.now
    pub low_node : IsNode bits (depth + 1) halved.lower.now
    pub high_node : IsNode bits (depth + 1) halved.upper.now
    pub low_of : (q : List Bool) → length q ≡ depth → AreOf bits q rows → AreOf bits (q ++ false ∷ []) halved.lower.now
    pub high_of : (q : List Bool) → length q ≡ depth → AreOf bits q rows → AreOf bits (q ++ true ∷ []) halved.upper.now
    pub plan : IsOfHalves (planned bits depth inherited rows) (planned bits (depth + 1) halved.own halved.lower.now) (planned bits (depth + 1) halved.own halved.upper.now)
