-- Which addresses each rule of an access list decides, as private functions promise it. A list of rules is its networks,
-- and a row is a network beside the index of its rule.
use Rattle.std.specs.Prelude.{◌≡◌, ◌≢◌, ◌↔◌, ◌⊎◌, ℕ, ◌<◌, ◌≤◌, min, if◌then◌else◌, Bool, List, [], ◌∷◌, ◌++◌, length, Some}
use Rattle.std.specs.List.{Contains, slice_get}
use Rattle.std.specs.List.Sorted.{IsStrictlyIncreasing}
use Rattle.std.specs.declared.cmp.Ordering.TheVariants.{Less}
use Rattle.cidr.specs.model.Bits.{bit_cmp}
use Rattle.cidr.specs.model.Network.{BeginsWith}
use Rattle.cidr_table.specs.internal.Places.{begins_with}
use Rattle.cidr_table.specs.internal.Sorting.{AreAscending}
use Rattle.cidr_sets.specs.model.FirstRules.{IsFirstRule, IsShadowed}

module _ {C : Type 0} (bits : C → List Bool) where
  -- the rows of the first rules
  pub record AreRows (networks : List (List Bool)) (count : ℕ) (rows : List (C × ℕ)) : Type 0 where
    pub here : (row : C × ℕ) → Contains rows row → (row.1 < count) × (slice_get networks row.1 ≡ Some (bits row.0))
    pub each : (j : ℕ) (p : List Bool) → j < count → slice_get networks j ≡ Some p → (c : C) × Contains rows (c, j) × (bits c ≡ p)

  -- the networks of the rows ascend, and none is before p
  abbrev pub AscendFrom : List Bool → List (C × ℕ) → Type 0
  AscendFrom p rows = ((row : C × ℕ) → Contains rows row → bit_cmp (bits row.0) p ≢ Less) × AreAscending (λ x y. bit_cmp (bits x) (bits y)) rows

  -- the networks of the rows have the addresses that the first rules decide, each beside the rule that decides its addresses
  pub record TellFirst (networks : List (List Bool)) (count : ℕ) (rows : List (C × ℕ)) : Type 0 where
    pub short : (row : C × ℕ) → Contains rows row → length (bits row.0) ≤ 129
    pub first : (row : C × ℕ) → Contains rows row → (a : List Bool) → length a ≡ 129 → BeginsWith a (bits row.0)
        → IsFirstRule networks a row.1
    pub each : (a : List Bool) → length a ≡ 129 → (j : ℕ) → j < count → IsFirstRule networks a j
        → (row : C × ℕ) × Contains rows row × BeginsWith a (bits row.0)

  -- the least of this index and those of the rows whose networks contain the address
  abbrev pub least : List Bool → ℕ → List (C × ℕ) → ℕ
  least a i [] = i
  least a i (row ∷ rows) = least a (if begins_with a (bits row.0) then min i row.1 else i) rows

  -- a network in p, beside the least index for each of its addresses
  pub record IsPart (p : List Bool) (i : ℕ) (rows : List (C × ℕ)) (part : C × ℕ) : Type 0 where
    pub short : length (bits part.0) ≤ 129
    pub inside : BeginsWith (bits part.0) p
    pub index : (a : List Bool) → BeginsWith a (bits part.0) → part.1 ≡ least a i rows

  -- to the old parts have come some of all addresses of p; the rows that lie in p are gone
  pub record IsPartStep (p : List Bool) (i : ℕ) (rows rest old new : List (C × ℕ)) : Type 0 where
    pub gone : List (C × ℕ)
    pub split : rows ≡ gone ++ rest
    pub inside : (row : C × ℕ) → Contains gone row → BeginsWith (bits row.0) p
    pub behind : (row : C × ℕ) → Contains rest row → ¬ (BeginsWith (bits row.0) p)
    pub kept : (part : C × ℕ) → Contains old part → Contains new part
    pub told : (part : C × ℕ) → Contains new part → Contains old part ⊎ IsPart p i rows part
    pub each : (a : List Bool) → length a ≡ 129 → BeginsWith a p → (part : C × ℕ) × Contains new part × BeginsWith a (bits part.0)

-- those of the first rules that decide no address, ascending
pub record AreUnreached (networks : List (List Bool)) (count : ℕ) (rules : List ℕ) : Type 0 where
  pub exact : (j : ℕ) → Contains rules j ↔ ((j < count) × IsShadowed 129 networks j)
  pub ascending : IsStrictlyIncreasing rules
