-- Rows of a type of networks, without the first bits, which they have in common.
use Rattle.std.specs.Prelude.{◌≡◌, ℕ, ◌+◌, ◌-◌, Bool, false, true, List, [], ◌∷◌, ◌++◌, length, take, drop, Option, Some, None}
use Rattle.std.specs.List.{AllByRecursion}
use Rattle.std.specs.List.Sorted.{IsStrictlySortedBy}
use Rattle.std.specs.Map.{keys_of}
use Rattle.std.specs.Option.{option_eq}
use Rattle.cidr.specs.model.Bits.{bit_cmp}
use Rattle.cidr_forwarding.specs.Trees.{Region, region, AllFitWidth, own, below, longer}
use Rattle.cidr_forwarding.specs.Choices.{candidates, fill, put, is_free, Measured, measured_of}

module _ {C V : Type 0} (bits : C → List Bool) where
  -- the bits of a row's network from depth on
  abbrev pub tails : ℕ → List (C × V) → List (List Bool × Option V)
  tails depth [] = []
  tails depth (r ∷ rows) = (drop depth (bits r.0), Some r.1) ∷ tails depth rows

  -- the forwarding of a network of so many bits
  unfoldable pub planned : ℕ → Option V → List (C × V) → Region (Option V)
  planned depth inherited rows = region (129 - depth) inherited (tails depth rows)

  -- rows of one network of so many bits
  pub record IsNode (depth : ℕ) (rows : List (C × V)) : Type 0 where
    pub ascending : IsStrictlySortedBy bit_cmp (keys_of (tails depth rows))
    pub within : AllFitWidth (129 - depth) (tails depth rows)

  -- the row's next bit is this one
  abbrev pub NextIs : ℕ → Bool → C × V → Type 0
  NextIs depth b row = drop depth (bits row.0) ≡ b ∷ drop (depth + 1) (bits row.0)

  -- each row has more bits
  abbrev pub AreDeep : ℕ → List (C × V) → Type 0
  AreDeep depth [] = Unit {0}
  AreDeep depth (r ∷ rows) = (drop depth (bits r.0) ≡ [] → ⊥) × AreDeep depth rows

  -- the value of a network itself, and its longer rows
  pub record IsRest (depth : ℕ) (inherited : Option V) (rows : List (C × V)) (value : Option V) (rest : List (C × V)) : Type 0 where
    pub value_is : value ≡ own inherited (tails depth rows)
    pub halves : (b : Bool) → below b (tails depth rows) ≡ below b (tails depth rest)
    pub longer_is : longer (tails depth rows) ≡ tails depth rest
    pub node : IsNode depth rest
    pub deep : AreDeep depth rest

  -- the rows of the lower half, and those of the upper one
  pub record AreHalves (depth : ℕ) (rows lower upper : List (C × V)) : Type 0 where
    pub whole : rows ≡ lower ++ upper
    pub low : AllByRecursion (NextIs depth false) lower
    pub high : AllByRecursion (NextIs depth true) upper

  -- each row is of this network
  abbrev pub AreOf : List Bool → List (C × V) → Type 0
  AreOf network [] = Unit {0}
  AreOf network (r ∷ rows) = (take (length network) (bits r.0) ≡ network) × AreOf network rows

  -- all are of one network of so many bits
  abbrev pub AreOfOne : ℕ → List (C × V) → Type 0
  AreOfOne depth rows = (network : List Bool) × (length network ≡ depth) × AreOf network rows

  -- what the first pass leaves of a network of so many bits
  unfoldable pub measured : (V → V → Bool) → Bool → ℕ → Option V → List (C × V) → Measured (Option V)
  measured eq holes depth inherited rows = measured_of (option_eq eq) (is_free holes) (129 - depth) 0 inherited (tails depth rows)

-- the rows behind these bits
abbrev pub behind : {Y : Type 0} → List Bool → List (List Bool × Y) → List (List Bool × Y)
behind network [] = []
behind network (r ∷ rows) = (network ++ r.0, r.1) ∷ behind network rows

-- the candidates, for values
module _ {V : Type 0} (eq : V → V → Bool) where
  unfoldable pub choices : Bool → Region (Option V) → List (Option V)
  choices holes t = candidates (option_eq eq) (is_free holes) t

  unfoldable pub put_rows : Bool → Region (Option V) → Option V → List (List Bool × Option V)
  put_rows holes t c = put (option_eq eq) (is_free holes) None t c

  -- the rows below a network where a candidate is inherited
  unfoldable pub fill_rows : Bool → Region (Option V) → Option V → List (List Bool × Option V)
  fill_rows holes t c = fill (option_eq eq) (is_free holes) None t c
