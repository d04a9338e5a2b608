-- What the search of a list promises.
use Rattle.std.specs.Prelude.{◌≡◌, ℕ, ◌+◌, ◌%◌, ◌^◌, ◌<◌, ◌≤◌, List, ◌∷◌, ◌++◌, length, map, slice_index_or}
use Rattle.cidr_lookup.specs.Nodes.{list}

-- the word that tells where a change is
abbrev pub change_word : ℕ × ℕ → ℕ
change_word change = change.0 % 2 ^ 32

-- the words of the changes ascend
abbrev pub AscendAt : (words : List ℕ) (starts count : ℕ) → Type 0
AscendAt words starts count = (i k : ℕ) → i < k → k < count → slice_index_or words (starts + i) 0 < slice_index_or words (starts + k) 0

abbrev pub AreOrdered : (changes : List (ℕ × ℕ)) → Type 0
AreOrdered changes = (i k : ℕ) → i < k → k < length changes → change_word (slice_index_or changes i (0, 0)) < change_word (slice_index_or changes k (0, 0))

-- a list stands at a place
pub record IsListAt (words : List ℕ) (index value : ℕ) (changes : List (ℕ × ℕ)) : Type 0 where
  pub front : List ℕ
  pub back : List ℕ
  pub all : words ≡ front ++ list value changes ++ back
  pub here : index ≡ length front

-- the value of the last change whose word is up to another, or the first value
pub record IsValueAt (value : ℕ) (changes : List (ℕ × ℕ)) (word result : ℕ) : Type 0 where
  pub count : ℕ
  pub within : count ≤ length changes
  pub is : result ≡ slice_index_or (value ∷ map (λ (change : ℕ × ℕ). change.1) changes) count 0
  pub before : (i : ℕ) → i < count → change_word (slice_index_or changes i (0, 0)) ≤ word
  pub behind : count < length changes → word < change_word (slice_index_or changes count (0, 0))
