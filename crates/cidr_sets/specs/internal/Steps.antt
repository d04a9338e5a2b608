-- Steps through two lists of networks that ascend, as private functions promise them.
use Rattle.std.specs.Prelude.{◌≡◌, ◌≢◌, ◌↔◌, ◌⊎◌, ℕ, ◌+◌, ◌-◌, ◌*◌, ◌<◌, ◌≤◌, Bool, List, length, drop, Option, Some, None}
use Rattle.std.specs.List.{Contains, slice_get}
use Rattle.std.specs.List.Sorted.{IsStrictlySortedBy}
use Rattle.std.specs.declared.cmp.Ordering.TheVariants.{Less, Greater}
use Rattle.cidr.specs.model.Bits.{bit_cmp}
use Rattle.cidr.specs.model.Network.{BeginsWith}
use Rattle.cidr_table.specs.model.Cover.{Covers, AreNetworks, parent}

abbrev pub Ascend : List (List Bool) → Type 0
Ascend = IsStrictlySortedBy bit_cmp

-- x is the first network of both lists, and behind it these are left
pub record IsUnionStep (ls rs : List (List Bool)) (x : List Bool) (bs us : List (List Bool)) : Type 0 where
  pub covers : (a : List Bool) → (Covers ls a ⊎ Covers rs a) ↔ (BeginsWith a x ⊎ (Covers bs a ⊎ Covers us a))
  pub here : Contains ls x ⊎ Contains rs x
  pub kept_left : (y : List Bool) → Contains bs y → Contains ls y
  pub kept_right : (y : List Bool) → Contains us y → Contains rs y
  pub before_left : (y : List Bool) → Contains bs y → bit_cmp x y ≡ Less
  pub before_right : (y : List Bool) → Contains us y → bit_cmp x y ≡ Less
  pub ascend_left : Ascend bs
  pub ascend_right : Ascend us
  pub fewer : length bs + length us < length ls + length rs

-- the networks of both lists, ascending, and each once
pub record IsMerge (these those merged : List (List Bool)) : Type 0 where
  pub ascend : Ascend merged
  pub covers : (a : List Bool) → (Covers these a ⊎ Covers those a) ↔ Covers merged a

-- the list begins with the network, if there is one
abbrev pub BeginsWithSome : Option (List Bool) → List Bool → Type 0
BeginsWithSome None a = ⊥
BeginsWithSome (Some p) a = BeginsWith a p

-- what both lists have are the addresses of x, if it is one, and those that both have of what is left
pub record IsIntersectionStep (ls rs : List (List Bool)) (x : Option (List Bool)) (bs us : List (List Bool)) : Type 0 where
  pub covers : (a : List Bool) → (Covers ls a × Covers rs a) ↔ (BeginsWithSome x a ⊎ (Covers bs a × Covers us a))
  pub here : (p : List Bool) → x ≡ Some p → Contains ls p ⊎ Contains rs p
  pub kept_left : (y : List Bool) → Contains bs y → Contains ls y
  pub kept_right : (y : List Bool) → Contains us y → Contains rs y
  pub before : (p a : List Bool) → x ≡ Some p → Covers bs a → Covers us a → bit_cmp p a ≡ Less
  pub ascend_left : Ascend bs
  pub ascend_right : Ascend us
  pub fewer : length bs + length us < length ls + length rs
  pub some : 0 < length bs + length us

-- the list comes after all that begin with the network
abbrev pub IsBehind : List Bool → List Bool → Type 0
IsBehind p a = (bit_cmp p a ≡ Less) × ¬ (BeginsWith a p)

-- none lies in another
abbrev pub AreApart : List (List Bool) → Type 0
AreApart s = (p q : List Bool) → Contains s p → Contains s q → BeginsWith q p → p ≡ q

-- the first is not before p
abbrev pub StartsFrom : List Bool → List (List Bool) → Type 0
StartsFrom p s = (q : List Bool) → slice_get s 0 ≡ Some q → bit_cmp q p ≢ Less

-- the first is behind all that begin with p
abbrev pub StartsBehind : List Bool → List (List Bool) → Type 0
StartsBehind p s = (q : List Bool) → slice_get s 0 ≡ Some q → IsBehind p q

-- what is left of some networks without the first ones, which come before p and don't contain it
pub record IsSkipped (p : List Bool) (others rest : List (List Bool)) : Type 0 where
  pub suffix : (k : ℕ) × (rest ≡ drop k others) × (length rest + k ≡ length others)
  pub covers : (a : List Bool) → bit_cmp p a ≢ Greater → Covers others a ↔ Covers rest a
  pub first : (q : List Bool) → slice_get rest 0 ≡ Some q → ¬ ((bit_cmp q p ≡ Less) × ¬ (BeginsWith p q))

-- a network of what p has without the others: they have no address of it, and one at least of its parent, if not p itself
pub record IsRest (p : List Bool) (others : List (List Bool)) (x : List Bool) : Type 0 where
  pub inside : BeginsWith x p
  pub free : (a : List Bool) → length a ≡ 129 → BeginsWith a x → ¬ (Covers others a)
  pub widest : (x ≡ p) ⊎ ((q : List Bool) × Contains others q × BeginsWith q (parent x) × (length x ≤ length q))

-- more networks that ascend than there is room for: each is an old one, or one of what p has without the others
pub record IsOver (p : List Bool) (old others : List (List Bool)) (room : ℕ) : Type 0 where
  pub networks : List (List Bool)
  pub over : room < length networks
  pub ascend : Ascend networks
  pub each : (x : List Bool) → Contains networks x → Contains old x ⊎ IsRest p others x

-- behind the old networks stand those of the addresses of p that the others have not, and of the others the rest is left
pub record IsDifferenceStep (p : List Bool) (old new others rest : List (List Bool)) : Type 0 where
  pub ascend : Ascend new
  pub before : (k : List Bool) → IsBehind p k → (x : List Bool) → Contains new x → bit_cmp x k ≡ Less
  pub covers : (a : List Bool) → length a ≡ 129
      → Covers new a ↔ (Covers old a ⊎ (BeginsWith a p × ¬ (Covers others a)))
  pub each : (x : List Bool) → Contains new x → Contains old x ⊎ IsRest p others x
  pub suffix : (k : ℕ) × (rest ≡ drop k others) × (length rest + k ≡ length others)
  pub behind : (a : List Bool) → IsBehind p a → Covers others a ↔ Covers rest a
  pub used : (q : List Bool) → slice_get others 0 ≡ Some q → BeginsWith q p → length rest < length others
  pub fits : (w : ℕ) → AreNetworks w others
      → length new + (w - length p) * length rest ≤ length old + 1 + (w - length p) * length others
