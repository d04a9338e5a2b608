-- A look-up table in words of 32 bits. An entry below 2 ^ 31 is a value; another is 2 ^ 31 and twice the place of a node among the words,
-- or of a list and one.
use Rattle.std.specs.Prelude.{◌≡◌, ◌≢◌, ℕ, zero, suc, ◌+◌, ◌-◌, ◌*◌, ◌/◌, ◌%◌, ◌^◌, ◌<◌, ◌≤◌, ◌⊎◌, List, [], ◌∷◌, ◌++◌, length, map, slice_index_or, count_ones}

-- the words of a list: how many changes there are, the last 32 bits of where each is, the value before them, and that from each on
abbrev pub list : (value : ℕ) (changes : List (ℕ × ℕ)) → List ℕ
list value changes = length changes ∷ map (λ (change : ℕ × ℕ). change.0 % 2 ^ 32) changes ++ value ∷ map (λ (change : ℕ × ℕ). change.1) changes

-- a node of 64 parts: a mark for each, the first the highest, and the entries of runs of parts, of which two side by side differ. The
-- entry of a part is that of the run that the marks up to it count
pub record IsNode (entries : List ℕ) (marks : ℕ) (runs : List ℕ) : Type 0 where
  pub first : marks / 2 ^ 63 ≡ 1
  pub counted : length runs ≡ count_ones marks
  pub each : (i : ℕ) → i < 64 → slice_index_or runs (count_ones (marks / 2 ^ (63 - i)) - 1) 0 ≡ slice_index_or entries i 0
  pub differ : (k : ℕ) → k + 1 < length runs → slice_index_or runs k 0 ≢ slice_index_or runs (k + 1) 0

-- ---- entries, each with the words that stand before what it needs, and those words with what it needs behind them
-- the entries of n blocks from the first on, where what each needs stands behind what those before it need
unfoldable pub AreEntries : (IsOne : (block : ℕ) (before : List ℕ) (entry : ℕ) (after : List ℕ) → Type 0) (first n : ℕ) (before entries after : List ℕ) → Type 0
AreEntries IsOne first zero before entries after = after ≡ before
AreEntries IsOne first (suc n) before entries after =
    (middle : List ℕ) × AreEntries IsOne first n before entries middle × IsOne (first + n) middle (slice_index_or entries n 0) after

module _ (Has : (number value : ℕ) → Type 0) where
  -- the numbers before another have the value
  abbrev pub HaveBefore : (from end value : ℕ) → Type 0
  HaveBefore from end value = (value < 2 ^ 31) × ((number : ℕ) → from ≤ number → number < end → Has number value)

  -- and those from each change on another. A change is a multiple of 2 ^ 82, divided by that, and the value from there on
  unfoldable pub AreChanges : (from end value : ℕ) (changes : List (ℕ × ℕ)) → Type 0
  AreChanges from end value [] = HaveBefore from end value
  AreChanges from end value (change ∷ changes) = (from < change.0 * 2 ^ 82) × (change.0 * 2 ^ 82 < end) × (value ≢ change.1)
      × HaveBefore from (change.0 * 2 ^ 82) value × AreChanges (change.0 * 2 ^ 82) end change.1 changes

  -- the entry of a block of 64 ^ steps numbers without a node: the value that all have; or a list of 1 to 31 changes, at numbers that
  -- have the bits before the last 114 in common
  abbrev pub IsLeaf : (steps block : ℕ) (before : List ℕ) (entry : ℕ) (after : List ℕ) → Type 0
  IsLeaf steps block before entry after = (value : ℕ) × (changes : List (ℕ × ℕ)) × AreChanges (block * 2 ^ (6 * steps)) ((block + 1) * 2 ^ (6 * steps)) value changes
      × (((changes ≡ []) × (entry ≡ value) × (after ≡ before))
      ⊎ ((0 < length changes) × (length changes < 32) × (steps < 20) × (entry ≡ 2 ^ 31 + 2 * length before + 1) × (after ≡ before ++ list value changes)))

  -- the entry of a block: without a node, where there is such a one; or else a node, behind what its 64 parts need
  unfoldable pub IsEntry : (steps block : ℕ) (before : List ℕ) (entry : ℕ) (after : List ℕ) → Type 0
  IsEntry zero block before entry after = IsLeaf zero block before entry after
  IsEntry (suc steps) block before entry after = IsLeaf (suc steps) block before entry after
      ⊎ ((¬ ((leaf : ℕ) × (end : List ℕ) × IsLeaf (suc steps) block before leaf end))
      × ((entries : List ℕ) × (marks : ℕ) × (runs : List ℕ) × (middle : List ℕ) × IsNode entries marks runs × AreEntries (IsEntry steps) (block * 64) 64 before entries middle
      × (entry ≡ 2 ^ 31 + 2 * length middle) × (after ≡ middle ++ marks % 2 ^ 32 ∷ marks / 2 ^ 32 ∷ runs)))
