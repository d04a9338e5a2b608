-- Whether an address is IPv4-mapped, by its halves.
use Rattle.std.proofs.Common.{◌≡◌, ◌≢◌, ℕ, ◌/◌, ◌%◌, ◌^◌, ◌<◌, Bool, true, false, ◌&&◌, ◌==◌, take, bytes_eq, arith}
use Rattle.std.proofs.lemmas.Bool.Decides.{nat_tests}
use Rattle.cidr.specs.model.Bits.{bits}
use Rattle.cidr.specs.laws.BitLaws.{length-bits}
use Rattle.cidr.specs.internal.Halves.{joined}
use Rattle.cidr.specs.model.Address.{groups_of}
use Rattle.cidr.specs.texts.Canonical.{mapped_groups}
use Rattle.cidr.proofs.GroupLaws.{groups_of-halves}

low_groups : (l : ℕ) → l < 2 ^ 64 → ((l / 2 ^ 48 % 65536 == 0) && ((l / 2 ^ 32 % 65536 == 65535) && true)) ≡ (l / 2 ^ 32 == 65535)
low_groups l low = grind (arith, nat_tests)

high_groups : (u : ℕ) (more : Bool) → u < 2 ^ 64 → u ≢ 0
    → ((u / 2 ^ 48 % 65536 == 0) && ((u / 2 ^ 32 % 65536 == 0) && ((u / 2 ^ 16 % 65536 == 0) && ((u / 2 ^ 0 % 65536 == 0) && more)))) ≡ false
high_groups u more high some = grind (arith, nat_tests)

pub mapped_below : (u l : ℕ) → l < 2 ^ 64 → u ≡ 0
    → bytes_eq (take 6 (groups_of (bits 128 (joined u l)))) mapped_groups ≡ (l / 2 ^ 32 == 65535)
mapped_below u l low none = rw (groups_of-halves u l low, none) (low_groups l low)

pub not_mapped_above : (u l : ℕ) → l < 2 ^ 64 → u < 2 ^ 64 → u ≢ 0
    → bytes_eq (take 6 (groups_of (bits 128 (joined u l)))) mapped_groups ≡ false
not_mapped_above u l low high some = rw (groups_of-halves u l low) (high_groups u _ high some)

pub ruleset mapped_laws = (mapped_below, not_mapped_above, length-bits)
