-- How regions lie to each other, field by field: what private functions promise each other.
use Rattle.std.specs.Prelude.{ℕ, ◌+◌, ◌-◌, ◌&&◌, ◌||◌, Bool, true, false, List, [], ◌∷◌, Option, Some, None, nat_eq, nat_le, nat_lt, min, max, if◌then◌else◌, slice_index_or}
use Rattle.cidr_rules.specs.declared.fields.Range.{Range}

-- each range has a number
unfoldable pub are_full : List (Range ℕ) → Bool
are_full [] = true
are_full (r ∷ rs) = nat_le r.first r.last && are_full rs

-- in no field one range is below the other
unfoldable pub meet : List (Range ℕ) → List (Range ℕ) → Bool
meet [] ss = true
meet (r ∷ rs) [] = true
meet (r ∷ rs) (s ∷ ss) = (nat_le s.first r.last && nat_le r.first s.last) && meet rs ss

-- in each field the range begins and ends within the other
unfoldable pub are_within : List (Range ℕ) → List (Range ℕ) → Bool
are_within [] [] = true
are_within [] (s ∷ ss) = false
are_within (r ∷ rs) [] = false
are_within (r ∷ rs) (s ∷ ss) = (nat_le s.first r.first && nat_le r.last s.last) && are_within rs ss

-- the numbers of both ranges
abbrev pub common_of : Range ℕ → Range ℕ → Range ℕ
common_of r s = record { first = max r.first s.first; last = min r.last s.last }

-- the ranges of what is in both regions
unfoldable pub shared_of : List (Range ℕ) → List (Range ℕ) → List (Range ℕ)
shared_of [] ss = []
shared_of (r ∷ rs) [] = []
shared_of (r ∷ rs) (s ∷ ss) = common_of r s ∷ shared_of rs ss

-- what of a range is below another, and above it
abbrev pub below_of : Range ℕ → Range ℕ → Option (Range ℕ)
below_of r s = if nat_lt r.first s.first then Some (record { first = r.first; last = s.first - 1 }) else None

abbrev pub above_of : Range ℕ → Range ℕ → Option (Range ℕ)
above_of r s = if nat_lt s.last r.last then Some (record { first = s.last + 1; last = r.last }) else None

-- the range of the field at this place
abbrev pub range_at : List (Range ℕ) → ℕ → Range ℕ
range_at rs d = slice_index_or rs d (record { first = 0; last = 0 })

-- ---- two regions that are together one region
abbrev pub is_same : Range ℕ → Range ℕ → Bool
is_same r s = nat_eq r.first s.first && nat_eq r.last s.last

-- the range begins right behind the other
abbrev pub follows : Range ℕ → Range ℕ → Bool
follows r s = nat_eq r.first (s.last + 1)

abbrev pub is_close : Range ℕ → Range ℕ → Bool
is_close r s = is_same r s || (follows r s || follows s r)

-- in each field the ranges are the same, or one begins right behind the other
unfoldable pub are_close : List (Range ℕ) → List (Range ℕ) → Bool
are_close [] ss = true
are_close (r ∷ rs) [] = true
are_close (r ∷ rs) (s ∷ ss) = is_close r s && are_close rs ss

-- in how many fields the ranges differ
unfoldable pub differing : List (Range ℕ) → List (Range ℕ) → ℕ
differing [] ss = 0
differing (r ∷ rs) [] = 0
differing (r ∷ rs) (s ∷ ss) = (if is_same r s then 0 else 1) + differing rs ss

-- the ranges differ in one field, in which one begins right behind the other
abbrev pub join : List (Range ℕ) → List (Range ℕ) → Bool
join rs ss = are_close rs ss && nat_eq (differing rs ss) 1

-- from where the first of two ranges begins to where the last of them ends
abbrev pub hull_of : Range ℕ → Range ℕ → Range ℕ
hull_of r s = record { first = min r.first s.first; last = max r.last s.last }

unfoldable pub hulls_of : List (Range ℕ) → List (Range ℕ) → List (Range ℕ)
hulls_of [] ss = []
hulls_of (r ∷ rs) [] = []
hulls_of (r ∷ rs) (s ∷ ss) = hull_of r s ∷ hulls_of rs ss
