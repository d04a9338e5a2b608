-- The values that one network can have at the least cost, and the rows that are put.
use Rattle.std.specs.Prelude.{◌≡◌, ℕ, zero, suc, ◌-◌, Bool, true, false, cond, List, Option, Some, None, [], ◌∷◌, ◌++◌, length}
use Rattle.std.specs.List.{filter}
use Rattle.cidr_forwarding.specs.Trees.{Region, Even, Halves, own, below, under, region, longer, dropped, sharing}

-- whether a row may have this value: any, or with no holes any but none
abbrev pub is_free : {V : Type 0} → Bool → Option V → Bool
is_free true x = true
is_free false None = false
is_free false (Some v) = true

module _ {X : Type 0} where
  -- the first list, or where it is empty the other
  abbrev pub or_else : List X → List X → List X
  or_else [] other = other
  or_else (x ∷ xs) other = x ∷ xs

  abbrev pub not_of : (X → Bool) → X → Bool
  not_of free x = cond (free x) false true

  -- the values of either half, or only those that no row may have, if there are such
  abbrev pub united : (X → Bool) → List X → List X → List X
  united free xs ys = or_else (filter (not_of free) (xs ++ ys)) (xs ++ ys)

  abbrev pub one_if_empty : List X → ℕ
  one_if_empty [] = 1
  one_if_empty (x ∷ xs) = 0

module _ {X : Type 0} (same : X → X → Bool) where
  abbrev pub is_listed : List X → X → Bool
  is_listed [] x = false
  is_listed (y ∷ ys) x = cond (same y x) true (is_listed ys x)

  -- 1 where the value is no candidate: it takes a row
  abbrev pub extra : List X → X → ℕ
  extra xs x = cond (is_listed xs x) 0 1

  abbrev pub shared : List X → List X → List X
  shared xs ys = filter (is_listed ys) xs

  -- the candidates of a network: those of both halves, or if there are none those of either
  abbrev pub joined_candidates : (X → Bool) → List X → List X → List X
  joined_candidates free xs ys = or_else (shared xs ys) (united free xs ys)

module _ {X : Type 0} (same : X → X → Bool) (free : X → Bool) where
  -- the values that cost no row if one of them is inherited
  abbrev pub candidates : Region X → List X
  candidates (Even x) = x ∷ []
  candidates (Halves l r) = joined_candidates same free (candidates l) (candidates r)

module _ {X : Type 0} where
  abbrev pub head_or : X → List X → X
  head_or d [] = d
  head_or d (x ∷ xs) = x

module _ {X : Type 0} (same : X → X → Bool) (free : X → Bool) (none : X) where
  abbrev pub pick : Region X → X
  pick t = head_or none (candidates same free t)

  -- the rows below a network where a candidate is inherited
  abbrev pub fill : Region X → X → List (List Bool × X)
  fill (Even v) c = []
  fill (Halves l r) c =
      under false (cond (is_listed same (candidates same free l) c) (fill l c) (([], pick l) ∷ fill l (pick l)))
      ++ under true (cond (is_listed same (candidates same free r) c) (fill r c) (([], pick r) ∷ fill r (pick r)))

  -- the rows of a network, with one for itself if no candidate is inherited
  abbrev pub put : Region X → X → List (List Bool × X)
  put t c = cond (is_listed same (candidates same free t) c) (fill t c) (([], pick t) ∷ fill t (pick t))

-- ---- what the first pass leaves of a network
pub data Measured (X : Type 0) : Type 0 where
  -- one value, which is its one candidate
  Sole : X → Measured X
  -- its candidates, and what is left of its halves
  Fork : List X → Measured X → Measured X → Measured X
  -- its one candidate, where all longer rows share at least two bits more, and what is left of the network of these bits
  Chain : X → Measured X → Measured X

module _ {X : Type 0} where
  -- the candidates, those of the upper half first and those of the network last
  abbrev pub noted : Measured X → List X
  noted (Sole x) = x ∷ []
  noted (Fork s l r) = noted r ++ (noted l ++ s)
  noted (Chain x t) = noted t ++ x ∷ []

  -- how many they are, where they may be more than one
  abbrev pub counted : Measured X → List ℕ
  counted (Sole x) = []
  counted (Fork s l r) = counted r ++ (counted l ++ length s ∷ [])
  counted (Chain x t) = counted t

  abbrev pub measured_at : List (List Bool × X) → ℕ → X → List X → Measured X → Measured X → Measured X → Measured X
  measured_at [] n o s far l r = Sole o
  measured_at (x ∷ rest) zero o s far l r = Fork s l r
  measured_at (x ∷ rest) (suc zero) o s far l r = Fork s l r
  measured_at (x ∷ rest) (suc (suc n)) o s far l r = Chain o far

module _ {X : Type 0} (same : X → X → Bool) (free : X → Bool) where
  -- of rows that share n bits, by how many bits they may have
  abbrev pub measured_of : ℕ → ℕ → X → List (List Bool × X) → Measured X
  measured_of zero n c rows = Sole (own c rows)
  measured_of (suc w) zero c rows =
      measured_at (longer rows) (sharing (longer rows)) (own c rows) (candidates same free (region (suc w) c rows))
      (measured_of w (sharing (longer rows) - 1) (own c rows) (dropped 1 (longer rows)))
      (measured_of w 0 (own c rows) (below false rows)) (measured_of w 0 (own c rows) (below true rows))
  measured_of (suc w) (suc n) c rows = measured_of w n c (dropped 1 rows)

-- the whole ends in this list
abbrev pub EndsIn : {X : Type 0} → List X → List X → Type 0
EndsIn {X} whole end = (front : List X) × (whole ≡ front ++ end)
