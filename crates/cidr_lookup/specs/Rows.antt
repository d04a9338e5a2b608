-- Rows that are made ready: their networks as keys have them, and why there is no look-up table of them.
use Rattle.std.specs.Prelude.{ℕ, ◌^◌, ◌<◌, ◌≤◌, Bool, List, length, map}
use Rattle.cidr.specs.model.Bits.{number}
use Rattle.cidr.specs.model.Network.{first_of}
use Rattle.cidr_lookup.specs.Tables.{HasTooManyWords}
use Rattle.cidr_lookup.specs.declared.table.TableError.{TableError}
use Rattle.cidr_lookup.specs.declared.table.TableError.TheVariants.{TooMany, Refused, TooLarge, NoMemory}

-- a network by the number of its first address, of w bits, and its prefix length
abbrev pub numbered : ℕ → List Bool → ℕ × ℕ
numbered w network = (number (first_of w network), length network)

abbrev pub numbered_rows : {C V : Type 0} → (C → List Bool) → ℕ → List (C × V) → List (ℕ × ℕ)
numbered_rows {C} {V} bits w rows = map (λ (row : C × V). numbered w (bits row.0)) rows

-- why so many networks are not made ready: too many; or else too many words, or that an allocation failed
abbrev pub IsCountRefused : ℕ → TableError → Type 0
IsCountRefused count TooMany = 2 ^ 31 ≤ count
IsCountRefused count (Refused index) = ⊥
IsCountRefused count TooLarge = count < 2 ^ 31
IsCountRefused count NoMemory = count < 2 ^ 31

-- the look-up table of rows, of as many steps as so many have, has too many words
abbrev pub HaveTooManyWords : {C V : Type 0} → (C → List Bool) → (w padding : ℕ) → (ℕ → ℕ) → List (C × V) → Type 0
HaveTooManyWords bits w padding steps rows = HasTooManyWords w padding (steps (length rows)) (numbered_rows bits w rows)
