-- Numbers of 128 bits in two halves of 64.
use Rattle.std.specs.Prelude.{ℕ, ◌+◌, ◌*◌, ◌^◌}

-- the number with these halves
abbrev pub joined : ℕ → ℕ → ℕ
joined upper lower = upper * 2 ^ 64 + lower
