-- Ranges of addresses: all from a first to a last one, in the order of their bits.
use Rattle.std.specs.Prelude.{◌≡◌, ◌≢◌, ◌↔◌, ◌⊎◌, ℕ, zero, suc, ◌+◌, ◌<◌, ◌≤◌, Bool, true, false, ◌&&◌, if◌then◌else◌, List, [], ◌∷◌, ◌++◌, length, take, drop, replicate, Some}
use Rattle.std.specs.Bool.{beq}
use Rattle.std.specs.List.{Contains, slice_get}
use Rattle.std.specs.declared.cmp.Ordering.TheVariants.{Less, Greater}
use Rattle.cidr.specs.model.Bits.{bit_cmp}
use Rattle.cidr.specs.model.Network.{BeginsWith, zeros, ones, first_of, last_of}
use Rattle.cidr_table.specs.model.Cover.{Covers, parent}
use Rattle.cidr_sets.specs.internal.Steps.{Ascend, IsBehind}

-- not before the first address, and not after the last; the first bits of a longer list tell
abbrev pub IsBetween : List Bool → List Bool → List Bool → Type 0
IsBetween first last a = (bit_cmp first a ≢ Greater) × (bit_cmp (take (length last) a) last ≢ Greater)

-- in one of the ranges
abbrev pub IsInSome : List (List Bool × List Bool) → List Bool → Type 0
IsInSome ranges a = (r : List Bool × List Bool) × Contains ranges r × IsBetween r.0 r.1 a

-- an address is after the last address of a range and before the first of another
abbrev pub IsGap : ℕ → List Bool → List Bool → Type 0
IsGap w last first = (a : List Bool) × (length a ≡ w)
    × (bit_cmp (take (length last) a) last ≡ Greater) × (bit_cmp first a ≡ Greater)

-- the longest ranges of a set, ascending: none is empty, an address is in one of them exactly if it is in the set, and
-- between a range and the next there is an address, so that no two touch
pub record AreRanges (w : ℕ) (IsIn : List Bool → Type 0) (ranges : List (List Bool × List Bool)) : Type 0 where
  pub some : (r : List Bool × List Bool) → Contains ranges r → (a : List Bool) × (length a ≡ w) × IsBetween r.0 r.1 a
  pub exact : (a : List Bool) → length a ≡ w → IsIn a ↔ IsInSome ranges a
  pub apart : (i : ℕ) (r s : List Bool × List Bool) → slice_get ranges i ≡ Some r → slice_get ranges (suc i) ≡ Some s
      → IsGap w r.1 s.0

-- ---- what a trait and private functions promise
-- no address begins with another
abbrev pub AreBeginless : (List Bool → Type 0) → Type 0
AreBeginless IsAddress = (a b : List Bool) → IsAddress a → IsAddress b → BeginsWith a b → a ≡ b

-- each list of 129 bits begins with an address
abbrev pub AreComplete : (List Bool → Type 0) → Type 0
AreComplete IsAddress = (a : List Bool) → length a ≡ 129 → (x : List Bool) × IsAddress x × BeginsWith a x

-- of a network that has an address, both ends are addresses
abbrev pub HaveEnds : (List Bool → Type 0) → (List Bool → List Bool) → (List Bool → List Bool) → Type 0
HaveEnds IsAddress first last = (p a : List Bool) → IsAddress a → BeginsWith a p → IsAddress (first p) × IsAddress (last p)

-- the bits, and behind them k times b, 129 at most
abbrev pub IsPadded : Bool → List Bool → List Bool → Type 0
IsPadded b p a = (k : ℕ) × (a ≡ p ++ replicate k b) × (length p + k ≤ 129)

-- the first and the last address of a network with the family bit in front, or of the one of no bits: 0.0.0.0 and
-- ffff:ffff:ffff:ffff:ffff:ffff:ffff:ffff
abbrev pub any_first : List Bool → List Bool
any_first [] = false ∷ zeros 32
any_first (false ∷ p) = false ∷ first_of 32 p
any_first (true ∷ p) = true ∷ first_of 128 p

abbrev pub any_last : List Bool → List Bool
any_last [] = true ∷ ones 128
any_last (false ∷ p) = false ∷ last_of 32 p
any_last (true ∷ p) = true ∷ last_of 128 p

-- the list begins with the edge, or has the bit `up` where it first differs
unfoldable pub Reaches : Bool → List Bool → List Bool → Type 0
Reaches up [] a = Unit {0}
Reaches up (x ∷ e) [] = ⊥
Reaches up (true ∷ e) (true ∷ a) = Reaches up e a
Reaches up (false ∷ e) (false ∷ a) = Reaches up e a
Reaches up (false ∷ e) (true ∷ a) = up ≡ true
Reaches up (true ∷ e) (false ∷ a) = up ≡ false

-- each bit is b
unfoldable pub all_bits : Bool → List Bool → Bool
all_bits b [] = true
all_bits b (x ∷ p) = beq x b && all_bits b p

-- where both first differ, p has only set bits behind and q only unset ones: no address is between them
unfoldable pub touches : List Bool → List Bool → Bool
touches [] q = false
touches (x ∷ p) [] = false
touches (true ∷ p) (true ∷ q) = touches p q
touches (false ∷ p) (false ∷ q) = touches p q
touches (false ∷ p) (true ∷ q) = all_bits true p && all_bits false q
touches (true ∷ p) (false ∷ q) = false

-- networks from a first to a last one, each range as these two
unfoldable pub join : List Bool → List (List Bool × List Bool) → List (List Bool × List Bool)
join p [] = (p, p) ∷ []
join p (r ∷ rs) = if touches p r.0 then (p, r.1) ∷ rs else (p, p) ∷ r ∷ rs

unfoldable pub joined_ranges : List (List Bool) → List (List Bool × List Bool)
joined_ranges [] = []
joined_ranges (p ∷ ps) = join p (joined_ranges ps)

-- ---- how the addresses of a network lie to an edge: the first of a range with the bit false, or the last with true
-- none is in the range: 0; all are: 1; not all are, and the edge has this many bits behind the network's: one more
unfoldable pub side : Bool → List Bool → List Bool → ℕ
side bit e [] = if all_bits bit e then 1 else suc (length e)
side bit [] (x ∷ p) = 1
side bit (true ∷ e) (true ∷ p) = side bit e p
side bit (false ∷ e) (false ∷ p) = side bit e p
side bit (true ∷ e) (false ∷ p) = if bit then 1 else 0
side bit (false ∷ e) (true ∷ p) = if bit then 0 else 1

-- the edge lies in the network p, and has other bits than `bit` behind it
abbrev pub IsCutBy : Bool → List Bool → List Bool → Type 0
IsCutBy bit e p = BeginsWith e p × (all_bits bit (drop (length p) e) ≡ false)

-- how many networks a network has at most in a range, by how it lies to the first and the last address
unfoldable pub most : ℕ → ℕ → ℕ
most zero k = 0
most (suc m) zero = 0
most (suc zero) (suc zero) = 1
most (suc zero) (suc (suc k)) = suc k
most (suc (suc m)) (suc zero) = suc m
most (suc (suc m)) (suc (suc k)) = m + k

-- the list is on the side of both edges
abbrev pub IsBetweenEdges : List Bool → List Bool → List Bool → Type 0
IsBetweenEdges first last a = Reaches true first a × Reaches false last a

-- a network whose addresses are all in the set, and not all of its parent, if it isn't p itself
pub record IsPart (IsIn : List Bool → Type 0) (p x : List Bool) : Type 0 where
  pub within : length x ≤ 129
  pub full : (a : List Bool) → length a ≡ 129 → BeginsWith a x → IsIn a
  pub widest : (x ≡ p) ⊎ ¬ ((a : List Bool) → length a ≡ 129 → BeginsWith a (parent x) → IsIn a)

-- behind the old networks stand those of the addresses of p that are in the set
pub record IsFilled (IsIn : List Bool → Type 0) (p : List Bool) (old new : List (List Bool)) : Type 0 where
  pub ascend : Ascend new
  pub before : (k : List Bool) → IsBehind p k → (x : List Bool) → Contains new x → bit_cmp x k ≡ Less
  pub covers : (a : List Bool) → length a ≡ 129 → Covers new a ↔ (Covers old a ⊎ (BeginsWith a p × IsIn a))
  pub each : (x : List Bool) → Contains new x → Contains old x ⊎ IsPart IsIn p x

-- more such networks than there is room for
pub record IsOverfull (IsIn : List Bool → Type 0) (p : List Bool) (old : List (List Bool)) (room : ℕ) : Type 0 where
  pub networks : List (List Bool)
  pub over : room < length networks
  pub ascend : Ascend networks
  pub each : (x : List Bool) → Contains networks x → Contains old x ⊎ IsPart IsIn p x
