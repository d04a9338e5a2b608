-- What holes leave of regions: what private functions promise each other. Regions are lists of ranges here.
use Rattle.std.specs.Prelude.{◌≡◌, ℕ, ◌+◌, ◌*◌, ◌≤◌, ◌<◌, ◌&&◌, ◌++◌, Bool, true, false, cond, nat_le, nat_lt, List, [], ◌∷◌, Option, Some, None, All, Contains, count_by, sum_by, map, length, slice_set, slice_index_or}
use Rattle.std.specs.List.{AllPairs, list_any}
use Rattle.cidr_rules.specs.declared.fields.Range.{Range}
use Rattle.cidr_rules.specs.declared.regions.Region.{Region}
use Rattle.cidr_rules.specs.declared.parts.Step.{Step}
use Rattle.cidr_rules.specs.declared.parts.Step.TheVariants.{Keep, Skip, Cut}
use Rattle.cidr_rules.specs.Packets.{is_in, ranges_of}
use Rattle.cidr_rules.specs.Regions.{are_full, join, meet, common_of, below_of, above_of, range_at}

abbrev pub boxes_of : {A : Type 0} → (A → ℕ) → List (Region A) → List (List (Range ℕ))
boxes_of number regions = map (ranges_of number) regions

-- in how many of the boxes the packet is
abbrev pub held : List ℕ → List (List (Range ℕ)) → ℕ
held x boxes = count_by (λ rs. is_in rs x) boxes

-- whether one of the boxes holds the packet
abbrev pub is_covered : List (List (Range ℕ)) → List ℕ → Bool
is_covered boxes x = list_any (λ rs. is_in rs x) boxes

-- each box has a packet
abbrev pub AreAllFull : List (List (Range ℕ)) → Type 0
AreAllFull boxes = All (λ rs. are_full rs ≡ true) boxes

-- ---- how many parts there may be
-- where the boxes begin and end in one field
abbrev pub edges : List (List (Range ℕ)) → ℕ → List ℕ
edges [] d = []
edges (h ∷ holes) d = (range_at h d).first ∷ ((range_at h d).last + 1) ∷ edges holes d

-- into how many ranges edges cut a range
abbrev pub ranges_between : List ℕ → Range ℕ → ℕ
ranges_between points r = 1 + count_by (λ p. nat_lt r.first p && nat_le p r.last) points

-- into how many boxes the edges of holes cut a box, whose first field is at this place
unfoldable pub cells : List (List (Range ℕ)) → ℕ → List (Range ℕ) → ℕ
cells holes d [] = 1
cells holes d (r ∷ rs) = ranges_between (edges holes d) r * cells holes (d + 1) rs

abbrev pub all_cells : List (List (Range ℕ)) → List (List (Range ℕ)) → ℕ
all_cells holes boxes = sum_by (λ rs. cells holes 0 rs) boxes

-- ---- cuts
-- the box with the range of one field changed, if a range is given
abbrev pub piece : List (Range ℕ) → ℕ → Option (Range ℕ) → List (List (Range ℕ))
piece rs d None = []
piece rs d (Some q) = slice_set rs d q ∷ []

-- of what is beside the hole in one field there are boxes more, and the rest is what is not beside it
pub record IsTrimmed (d : ℕ) (rs rest ss : List (Range ℕ)) (old new : List (List (Range ℕ))) : Type 0 where
  pub left : rest ≡ slice_set rs d (common_of (range_at rs d) (range_at ss d))
  pub boxes : new ≡ (old ++ piece rs d (below_of (range_at rs d) (range_at ss d))) ++ piece rs d (above_of (range_at rs d) (range_at ss d))

-- of what the hole leaves of the box there are boxes more
pub record IsCut (rs hole : List (Range ℕ)) (old new : List (List (Range ℕ))) : Type 0 where
  pub full : AreAllFull new
  pub counts : (x : List ℕ) → is_in hole x ≡ false → held x new ≡ held x old + cond (is_in rs x) 1 0
  pub fewer : (holes : List (List (Range ℕ))) → Contains holes hole → all_cells holes new + 1 ≤ all_cells holes old + cells holes 0 rs

-- what may be done with a box
abbrev pub IsStep : List (Range ℕ) → List (List (Range ℕ)) → Step → Type 0
IsStep rs holes Keep = (x : List ℕ) → is_in rs x ≡ true → is_covered holes x ≡ false
IsStep rs holes Skip = (x : List ℕ) → is_covered holes x ≡ false → is_in rs x ≡ false
IsStep rs holes (Cut i) = (i < length holes) × ((d : List (Range ℕ)) → meet rs (slice_index_or holes i d) ≡ true)

-- the box is kept and the others stay, or there are boxes of what the holes leave of it besides
abbrev pub IsSettled : List (Range ℕ) → List (List (Range ℕ)) → List (List (Range ℕ)) → List (List (Range ℕ)) → Bool → Type 0
IsSettled rs holes old new true = (new ≡ old) × ((x : List ℕ) → is_in rs x ≡ true → is_covered holes x ≡ false)
IsSettled rs holes old new false = AreAllFull new
    × ((x : List ℕ) → is_covered holes x ≡ false → held x new ≡ held x old + cond (is_in rs x) 1 0)
    × (all_cells holes new + 1 ≤ all_cells holes old + cells holes 0 rs)

-- the box is part of what the holes leave of the old boxes, and the new ones have what is left besides
pub record IsRest (holes old new : List (List (Range ℕ))) (rs : List (Range ℕ)) : Type 0 where
  pub full : are_full rs ≡ true
  pub clear : (x : List ℕ) → is_in rs x ≡ true → is_covered holes x ≡ false
  pub counts : (x : List ℕ) → is_covered holes x ≡ false → held x new + cond (is_in rs x) 1 0 ≡ held x old

-- such a box, or that the holes leave nothing of the old ones
abbrev pub IsNextRest : List (List (Range ℕ)) → List (List (Range ℕ)) → List (List (Range ℕ)) → Option (List (Range ℕ)) → Type 0
IsNextRest holes old new None = (x : List ℕ) → is_covered holes x ≡ false → held x old ≡ 0
IsNextRest holes old new (Some rs) = IsRest holes old new rs

-- ---- boxes that are joined to fewer
-- each box has a packet, and no two of them are together one box
pub record AreSeparate (boxes : List (List (Range ℕ))) : Type 0 where
  pub full : AreAllFull boxes
  pub apart : AllPairs (λ rs ss. join rs ss ≡ false) boxes

-- of the packets of the box there are boxes more, or others in place of the old ones
pub record IsJoined (rs : List (Range ℕ)) (old new : List (List (Range ℕ))) : Type 0 where
  pub separate : AreSeparate new
  pub counts : (x : List ℕ) → held x new ≡ held x old + cond (is_in rs x) 1 0
  pub few : length new ≤ length old + 1
