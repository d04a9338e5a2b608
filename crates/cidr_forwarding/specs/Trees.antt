-- Rows by the next bit of their networks, and a forwarding as a tree of halves.
use Rattle.std.specs.Prelude.{◌≡◌, ℕ, zero, suc, ◌≤◌, ◌&&◌, Bool, true, false, cond, List, [], ◌∷◌, ◌++◌, length, drop, Option, Some, None}

-- how many bits two lists begin with alike
abbrev pub common : List Bool → List Bool → ℕ
common [] q = 0
common (b ∷ p) [] = 0
common (false ∷ p) (false ∷ q) = suc (common p q)
common (false ∷ p) (true ∷ q) = 0
common (true ∷ p) (false ∷ q) = 0
common (true ∷ p) (true ∷ q) = suc (common p q)

-- a network that has one value, or two halves
pub data Region (X : Type 0) : Type 0 where
  Even : X → Region X
  Halves : Region X → Region X → Region X

module _ {X : Type 0} where
  abbrev pub own_step : List Bool → X → X → X
  own_step [] x rest = x
  own_step (b ∷ p) x rest = rest

  -- the value of the first row of no bits, or else the one that is inherited
  abbrev pub own : X → List (List Bool × X) → X
  own c [] = c
  own c (r ∷ rows) = own_step r.0 r.1 (own c rows)

  abbrev pub below_step : Bool → List Bool → X → List (List Bool × X) → List (List Bool × X)
  below_step b [] x rest = rest
  below_step false (false ∷ p) x rest = (p, x) ∷ rest
  below_step false (true ∷ p) x rest = rest
  below_step true (false ∷ p) x rest = rest
  below_step true (true ∷ p) x rest = (p, x) ∷ rest

  -- the rows in one half, without that bit
  abbrev pub below : Bool → List (List Bool × X) → List (List Bool × X)
  below b [] = []
  below b (r ∷ rows) = below_step b r.0 r.1 (below b rows)

  -- the rows, in that half of a network
  abbrev pub under : Bool → List (List Bool × X) → List (List Bool × X)
  under b [] = []
  under b (r ∷ rows) = (b ∷ r.0, r.1) ∷ under b rows

  abbrev pub deeper : List (List Bool × X) → List (List Bool × X) → X → Region X → Region X → Region X
  deeper [] [] o l r = Even o
  deeper [] (x ∷ highs) o l r = Halves l r
  deeper (x ∷ lows) highs o l r = Halves l r

  -- where a value is inherited: one value if no row has a bit, or else two halves
  abbrev pub region : ℕ → X → List (List Bool × X) → Region X
  region zero c rows = Even (own c rows)
  region (suc w) c rows =
      deeper (below false rows) (below true rows) (own c rows) (region w (own c rows) (below false rows)) (region w (own c rows) (below true rows))

  abbrev pub AllFitWidth : ℕ → List (List Bool × X) → Type 0
  AllFitWidth w [] = Unit {0}
  AllFitWidth w (r ∷ rows) = (length r.0 ≤ w) × AllFitWidth w rows

  abbrev pub longer_step : List Bool → X → List (List Bool × X) → List (List Bool × X)
  longer_step [] x rest = rest
  longer_step (b ∷ p) x rest = (b ∷ p, x) ∷ rest

  -- the rows that have a bit
  abbrev pub longer : List (List Bool × X) → List (List Bool × X)
  longer [] = []
  longer (r ∷ rows) = longer_step r.0 r.1 (longer rows)

  -- the rows without their first n bits
  abbrev pub dropped : ℕ → List (List Bool × X) → List (List Bool × X)
  dropped n [] = []
  dropped n (r ∷ rows) = (drop n r.0, r.1) ∷ dropped n rows

  abbrev pub last_key : List Bool → List (List Bool × X) → List Bool
  last_key p [] = p
  last_key p (r ∷ rows) = last_key r.0 rows

  -- how many bits the first row and the last one share
  abbrev pub sharing : List (List Bool × X) → ℕ
  sharing [] = 0
  sharing (r ∷ rows) = common r.0 (last_key r.0 rows)

  -- a forwarding by its halves, which are as the whole where that has one value
  pub data IsOfHalves (t l r : Region X) : Type 0 where
    OfHalves : t ≡ Halves l r → IsOfHalves t l r
    OfEven : (x : X) → t ≡ Even x → l ≡ Even x → r ≡ Even x → IsOfHalves t l r

-- ---- whether two forwardings are the same
module _ {X : Type 0} (same : X → X → Bool) where
  -- whether this one value is the only one
  abbrev pub all_are : X → Region X → Bool
  all_are x (Even y) = same x y
  all_are x (Halves l r) = all_are x l && all_are x r

  abbrev pub agree : Region X → Region X → Bool
  agree (Even x) t = all_are x t
  agree (Halves l r) (Even y) = agree l (Even y) && agree r (Even y)
  agree (Halves l r) (Halves k s) = agree l k && agree r s

-- ---- where two forwardings differ
module _ {X : Type 0} where
  -- two forwardings as one, whose values are those of both
  abbrev pub with_all : X → Region X → Region (X × X)
  with_all x (Even y) = Even (x, y)
  with_all x (Halves l r) = Halves (with_all x l) (with_all x r)

  abbrev pub paired : Region X → Region X → Region (X × X)
  paired (Even x) t = with_all x t
  paired (Halves l r) (Even y) = Halves (paired l (Even y)) (paired r (Even y))
  paired (Halves l r) (Halves k s) = Halves (paired l k) (paired r s)

module _ {X : Type 0} (same : X → X → Bool) where
  -- the values of both halves, if they are the same
  abbrev pub shared_values : Option (X × X) → Option (X × X) → Option (X × X)
  shared_values None high = None
  shared_values (Some x) None = None
  shared_values (Some x) (Some y) = cond (same x.0 y.0 && same x.1 y.1) (Some x) None

  -- the values of a network that has one value in each forwarding
  abbrev pub sole_values : Region (X × X) → Option (X × X)
  sole_values (Even x) = Some x
  sole_values (Halves l r) = shared_values (sole_values l) (sole_values r)

  -- one row where they differ, or none; else the rows of the halves
  abbrev pub listed : Option (X × X) → List (List Bool × (X × X)) → List (List Bool × (X × X))
  listed (Some x) inside = cond (same x.0 x.1) [] (([], x) ∷ [])
  listed None inside = inside

  abbrev pub differing : Region (X × X) → List (List Bool × (X × X))
  differing (Even x) = listed (Some x) []
  differing (Halves l r) = listed (sole_values (Halves l r)) (under false (differing l) ++ under true (differing r))
