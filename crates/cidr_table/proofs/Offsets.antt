-- Where an element stands within the bytes of its slice.
use Rattle.std.proofs.Common.{arith, ℕ, ◌*◌, ◌<◌, ◌≤◌, Fits, w64}
use Rattle.std.proofs.Math.Nat.{mul-le-mul_right}

pub offset_fits : (size i n : ℕ) → n * size < 9223372036854775808 → i < n → Fits w64 (i * size)
offset_fits size i n all within = let before : i * size ≤ n * size = mul-le-mul_right size (omega arith) in omega (arith, before)
