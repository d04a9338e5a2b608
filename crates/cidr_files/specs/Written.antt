-- Bytes as they are written.
use Rattle.std.specs.Prelude.{ℕ, ◌-◌, ◌<◌, List, ◌++◌, length, replicate, slice_index_or}
use Rattle.std.specs.List.{flat_map}
use Rattle.cidr_files.specs.Layout.{padded}

-- all numbers are below a bound
abbrev pub AreBelow : ℕ → List ℕ → Type 0
AreBelow bound numbers = (k : ℕ) → k < length numbers → slice_index_or numbers k 0 < bound

-- the bytes of numbers, one behind the other
unfoldable pub spelled : (ℕ → List ℕ) → List ℕ → List ℕ
spelled bytes numbers = flat_map bytes numbers

-- how many bytes are free behind so many
abbrev pub free : ℕ → ℕ
free size = padded size - size

-- a part, and zeros in what is free behind it
unfoldable pub filled : List ℕ → List ℕ
filled part = part ++ replicate (free (length part)) 0

-- parts one behind the other
abbrev pub joined_parts : List (List ℕ) → List ℕ
joined_parts parts = flat_map filled parts
