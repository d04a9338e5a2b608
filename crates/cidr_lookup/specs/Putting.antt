-- What the builder keeps: the runs of a node, what blocks have, and words that are put, one behind the other, up to one that is not taken.
use Rattle.std.specs.Prelude.{◌≡◌, ℕ, zero, suc, ◌+◌, ◌-◌, ◌*◌, ◌/◌, ◌%◌, ◌^◌, ◌<◌, ◌≤◌, ◌⊎◌, ◌==◌, ◌||◌, Bool, not, if◌then◌else◌, List, [], ◌∷◌, ◌++◌, length, take, slice_index_or}
use Rattle.cidr_lookup.specs.Nodes.{AreChanges}
use Rattle.cidr_lookup.specs.declared.words.Stopped.{Stopped}
use Rattle.cidr_lookup.specs.declared.words.Stopped.TheVariants.{First, Words}

-- ---- the runs of a node, part by part
-- whether a part begins a run
abbrev pub begins_run : List ℕ → ℕ → Bool
begins_run entries i = (i == 0) || not (slice_index_or entries i 0 == slice_index_or entries (i - 1) 0)

-- the entry of each run of the first n parts
unfoldable pub runs : List ℕ → ℕ → List ℕ
runs entries zero = []
runs entries (suc n) = if begins_run entries n then runs entries n ++ slice_index_or entries n 0 ∷ [] else runs entries n

-- a bit for each of the first n parts, the first the highest: whether it begins a run
unfoldable pub marks : List ℕ → ℕ → ℕ
marks entries zero = 0
marks entries (suc n) = marks entries n * 2 + (if begins_run entries n then 1 else 0)

-- the words of a node
abbrev pub node : List ℕ → List ℕ
node entries = marks entries 64 % 2 ^ 32 ∷ marks entries 64 / 2 ^ 32 ∷ runs entries 64

-- the marks of the entries of n parts, as the highest of 64 bits, and the first `count` words that are kept, as their runs
pub record AreRuns (entries : List ℕ) (n set : ℕ) (kept : List ℕ) (count : ℕ) : Type 0 where
  pub parts : length entries ≡ n
  pub most : n ≤ 64
  pub marked : set ≡ marks entries n * 2 ^ (64 - n)
  pub room : length kept ≡ 64
  pub few : count ≤ n
  pub are_runs : take count kept ≡ runs entries n

-- ---- blocks
module _ (Has : (number value : ℕ) → Type 0) where
  -- each number of a block of 64 ^ steps has the value
  abbrev pub AllHave : (steps block value : ℕ) → Type 0
  AllHave steps block value = (value < 2 ^ 31) × ((number : ℕ) → number / 2 ^ (6 * steps) ≡ block → Has number value)

  -- it has a list
  abbrev pub HasList : (steps block value : ℕ) (changes : List (ℕ × ℕ)) → Type 0
  HasList steps block value changes =
      (0 < length changes) × (length changes < 32) × AreChanges Has (block * 2 ^ (6 * steps)) ((block + 1) * 2 ^ (6 * steps)) value changes × (steps < 20)

-- ---- words
-- these words are put of all, and the next is not taken, or no place is left
abbrev pub StopsBefore : (put : List ℕ) (Refuses : ℕ → Type 0) (all : List ℕ) → Type 0
StopsBefore put Refuses all = ((word : ℕ) × (rest : List ℕ) × (all ≡ put ++ word ∷ rest) × Refuses word)
    ⊎ ((2 ^ 30 ≤ length put) × ((rest : List ℕ) × (all ≡ put ++ rest)))

-- the same of one of two arrays
abbrev pub IsStopped : Stopped → (first : List ℕ) (RefusesFirst : ℕ → Type 0) (all_first : List ℕ) (words : List ℕ) (RefusesWord : ℕ → Type 0) (all_words : List ℕ) → Type 0
IsStopped (First stop) first RefusesFirst all_first words RefusesWord all_words = StopsBefore first RefusesFirst all_first
IsStopped (Words stop) first RefusesFirst all_first words RefusesWord all_words = StopsBefore words RefusesWord all_words
