-- Numbers of several bytes.
use Rattle.std.specs.Prelude.{ℕ, zero, suc, ◌+◌, ◌*◌, ◌^◌, List, slice_index}

-- the number that so many bytes from a place on are, the most significant first
abbrev pub number_at : List ℕ → ℕ → ℕ → ℕ
number_at bytes at zero = 0
number_at bytes at (suc n) = slice_index bytes at * 256 ^ n + number_at bytes (at + 1) n
