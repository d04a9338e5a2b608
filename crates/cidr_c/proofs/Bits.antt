-- Addresses and their numbers.
use Rattle.std.proofs.Common.{◌≡◌, ℕ, ◌^◌, ◌<◌, Bool, List, length}
use Rattle.cidr.specs.model.Bits.{bits, number}
use Rattle.cidr.specs.laws.BitLaws.{bits-number, number-lt}

pub bits-of_number : (w : ℕ) (a : List Bool) → length a ≡ w → bits w (number a) ≡ a
bits-of_number w a e = rw (← e) (bits-number a)

pub number-below : (w : ℕ) (a : List Bool) → length a ≡ w → number a < 2 ^ w
number-below w a e = rw (← e) (number-lt a)

pub ruleset number_laws = (bits-of_number, number-below)
