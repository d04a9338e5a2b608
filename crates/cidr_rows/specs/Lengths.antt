-- Which lengths keys may have, by an array that has 0 at the index of a length that none has. Of a length that it does not reach it
-- tells nothing.
use Rattle.std.specs.Prelude.{◌≡◌, ℕ, Bool, Contains, List, length, slice_index_or}

-- a key may have so many bits
abbrev pub MayHave : List ℕ → ℕ → Type 0
MayHave lengths n = ¬ (slice_index_or lengths n 1 ≡ 0)

-- each key has so many as it may
abbrev pub AreLengths : {C : Type 0} → (C → List Bool) → List C → List ℕ → Type 0
AreLengths bits keys lengths = (key : _) → Contains keys key → MayHave lengths (length (bits key))

-- the lengths of keys are added: what was known of others stays
pub record AreLengthsAdded {C : Type 0} (bits : C → List Bool) (keys : List C) (old new : List ℕ) : Type 0 where
  pub size : length new ≡ length old
  pub added : (key : C) → Contains keys key → slice_index_or new (length (bits key)) 1 ≡ 1
  pub others : (n : ℕ) → ((key : C) → Contains keys key → ¬ (length (bits key) ≡ n)) → slice_index_or new n 1 ≡ slice_index_or old n 1
