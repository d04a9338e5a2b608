-- What the pass over networks keeps: the last network that has an address, among the first `bound`.
use Rattle.std.specs.Prelude.{◌≡◌, ◌≢◌, ℕ, ◌+◌, ◌-◌, ◌^◌, ◌<◌, ◌≤◌, ◌⊎◌, List, length, slice_index_or}
use Rattle.cidr_lookup.specs.Keys.{IsNetwork, Precedes}

-- the number of the last address
abbrev pub last_number_in : ℕ → ℕ × ℕ → ℕ
last_number_in w network = network.0 + (2 ^ (w - network.1) - 1)

module _ (w : ℕ) (networks : List (ℕ × ℕ)) where
  abbrev pub at : ℕ → ℕ × ℕ
  at j = slice_index_or networks j (0, 0)

  -- what stands at this index is a network, and comes behind the one before it
  pub record IsNext (i : ℕ) : Type 0 where
    pub network : IsNetwork w (at i)
    pub behind : 0 < i → Precedes (at (i - 1)) (at i)

  -- the network has the address
  abbrev pub HasNumber : ℕ × ℕ → ℕ → Type 0
  HasNumber network address = (network.0 ≤ address) × (address ≤ last_number_in w network)

  -- of the first `bound` networks, those that have the address stand before `end`, and the one before `end` has it
  pub record IsLastWithNumber (bound address end : ℕ) : Type 0 where
    pub before : (j : ℕ) → j < bound → HasNumber (at j) address → j < end
    pub here : 0 < end → (end ≤ bound) × HasNumber (at (end - 1)) address

  -- a network begins with the address, or has ended with the one before it
  pub record IsEdge (address : ℕ) : Type 0 where
    pub index : ℕ
    pub within : index < length networks
    pub edge : (address ≡ (at index).0) ⊎ (address ≡ last_number_in w (at index) + 1)

  -- the network before `end` is open at place p
  pub record IsOpen (bound p last end : ℕ) : Type 0 where
    pub some : 0 < end
    pub upto : end ≤ bound
    pub last_is : last ≡ last_number_in w (at (end - 1))
    pub deep : p ≤ (at (end - 1)).1 + 1

  -- the range that begins with `start`, behind which no address but those of networks from `bound` on has another end than
  -- that of the last open network that it is in
  pub record IsPassing (bound start : ℕ) (lasts ends : List ℕ) (depth : ℕ) : Type 0 where
    pub wide : w ≤ 128
    pub places : bound ≤ length networks
    pub fits : start < 2 ^ w
    pub some : 0 < depth
    pub widest : slice_index_or lasts 0 0 ≡ 2 ^ w - 1
    pub nested : (p q : ℕ) → p ≤ q → q < depth → slice_index_or lasts q 0 ≤ slice_index_or lasts p 0
    pub opened : (p : ℕ) → 0 < p → p < depth → IsOpen bound p (slice_index_or lasts p 0) (slice_index_or ends p 0)
    pub answers : (p address : ℕ) → p < depth → start ≤ address → address ≤ slice_index_or lasts p 0
        → (p + 1 < depth → slice_index_or lasts (p + 1) 0 < address) → IsLastWithNumber bound address (slice_index_or ends p 0)
    pub reaching : start ≤ slice_index_or lasts (depth - 1) 0 + 1
    pub ahead : (j : ℕ) → bound ≤ j → j < length networks → start ≤ (at j).0

  -- the first `count` ranges of the arrays end before `start`, and each has the answer of its addresses
  pub record AreSoFar (starts answers : List ℕ) (count start : ℕ) : Type 0 where
    pub none : count ≡ 0 → start ≡ 0
    pub first : 0 < count → slice_index_or starts 0 0 ≡ 0
    pub below : (k : ℕ) → k < count → slice_index_or starts k 0 < start
    pub ascending : (i k : ℕ) → i < k → k < count → slice_index_or starts i 0 < slice_index_or starts k 0
    pub changes : (k : ℕ) → k + 1 < count → slice_index_or answers k 0 ≢ slice_index_or answers (k + 1) 0
    pub known : (k address : ℕ) → k < count → slice_index_or starts k 0 ≤ address → address < start
        → ((i : ℕ) → k < i → i < count → address < slice_index_or starts i 0) → IsLastWithNumber (length networks) address (slice_index_or answers k 0)

-- the list has the value in place of one, and else what it had
pub record IsPut (old new : List ℕ) (index value : ℕ) : Type 0 where
  pub put : slice_index_or new index 0 ≡ value
  pub others : (k : ℕ) → k ≢ index → slice_index_or new k 0 ≡ slice_index_or old k 0
  pub same : length new ≡ length old
