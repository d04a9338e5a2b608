-- A number of 128 bits and its halves tell each other.
use Rattle.std.proofs.Common.{◌≡◌, ℕ, ◌/◌, ◌%◌, ◌^◌, ◌<◌, ap, ◌∙◌, arith}
use Rattle.std.proofs.lemmas.Nat.{shr_high, mod_low}
use Rattle.cidr.specs.model.Bits.{bits, number}
use Rattle.cidr.specs.laws.BitLaws.{number-bits}
use Rattle.cidr.specs.internal.Halves.{joined}

pub upper-joined : (u l : ℕ) → l < 2 ^ 64 → joined u l / 2 ^ 64 ≡ u
upper-joined u l low = shr_high u 64 l low

pub lower-joined : (u l : ℕ) → l < 2 ^ 64 → joined u l % 2 ^ 64 ≡ l
lower-joined u l low = mod_low u 64 l low

pub number-joined : (u l : ℕ) → u < 2 ^ 64 → l < 2 ^ 64 → number (bits 128 (joined u l)) ≡ joined u l
number-joined u l high low = number-bits 128 (joined u l) (omega arith)

pub upper-bits : (u l : ℕ) → u < 2 ^ 64 → l < 2 ^ 64 → number (bits 128 (joined u l)) / 2 ^ 64 ≡ u
upper-bits u l high low = ap (λ n. n / 2 ^ 64) (number-joined u l high low) ∙ upper-joined u l low

pub lower-bits : (u l : ℕ) → u < 2 ^ 64 → l < 2 ^ 64 → number (bits 128 (joined u l)) % 2 ^ 64 ≡ l
lower-bits u l high low = ap (λ n. n % 2 ^ 64) (number-joined u l high low) ∙ lower-joined u l low
