-- The bits of a number of 128 bits by its halves.
use Rattle.std.proofs.Common.{◌≡◌, ℕ, ◌/◌, ◌%◌, ◌^◌, ◌<◌, ◌&&◌, ◌==◌, ap, ◌∙◌, arith, inl, inr}
use Rattle.std.proofs.lemmas.Bool.{cases_eq}
use Rattle.std.proofs.lemmas.Bool.Decides.{nat_tests}
use Rattle.std.proofs.lemmas.Nat.{shr_split}
use Rattle.std.specs.Ordering.{nat_cmp, ordering_then, is_eq}
use Rattle.cidr.specs.model.Bits.{bits, bit_cmp, bit_eq}
use Rattle.cidr.specs.laws.BitLaws.{length-bits, bit_cmp-bits, bit_eq_ties}
use Rattle.cidr.specs.laws.HalfLaws.{number-joined}
use Rattle.cidr.specs.internal.Halves.{joined}
use Rattle.cidr.proofs.OrderLaws.{key_cmp}

pub bits-split : (n : ℕ) → bits 128 (joined (n / 2 ^ 64) (n % 2 ^ 64)) ≡ bits 128 n
bits-split n = ap (bits 128) (shr_split n 64)

pub cmp-halves : (u l v m : ℕ) → u < 2 ^ 64 → l < 2 ^ 64 → v < 2 ^ 64 → m < 2 ^ 64
    → bit_cmp (bits 128 (joined u l)) (bits 128 (joined v m)) ≡ ordering_then (nat_cmp u v) (nat_cmp l m)
cmp-halves u l v m a b c d = bit_cmp-bits 128 (joined u l) (joined v m) (omega arith) (omega arith) ∙ key_cmp (2 ^ 64) u l v m b d

tie-halves : (u l v m : ℕ) → is_eq (ordering_then (nat_cmp u v) (nat_cmp l m)) ≡ ((u == v) && (l == m))
tie-halves u l v m = elim (cases_eq u v) [ inl e ↦ grind (arith, nat_tests) | inr n ↦ grind (arith, nat_tests) ]

pub eq-halves : (u l v m : ℕ) → u < 2 ^ 64 → l < 2 ^ 64 → v < 2 ^ 64 → m < 2 ^ 64
    → bit_eq (bits 128 (joined u l)) (bits 128 (joined v m)) ≡ ((u == v) && (l == m))
eq-halves u l v m a b c d =
    bit_eq_ties (bits 128 (joined u l)) (bits 128 (joined v m)) ∙ ap is_eq (cmp-halves u l v m a b c d) ∙ tie-halves u l v m

pub ruleset half_laws = (bits-split, number-joined, length-bits, cmp-halves, eq-halves)
