-- Lists of bits, the most significant first, and the numbers that they are in base two. An address is such a list, and
-- a network the list of the bits that its addresses begin with.
use Rattle.std.specs.Prelude.{ℕ, zero, suc, ◌+◌, ◌/◌, ◌%◌, ◌^◌, Bool, List, [], ◌∷◌, length, ◌==◌, if◌then◌else◌}
use Rattle.std.specs.Bool.{beq}
use Rattle.std.specs.Ordering.{bool_cmp}
use Rattle.std.specs.declared.cmp.Ordering.{Ordering}
use Rattle.std.specs.Cmp.Lexicographic.{slice_cmp, pointwise}

-- the w lowest bits of n, most significant first
unfoldable pub bits : ℕ → ℕ → List Bool
bits zero n = []
bits (suc w) n = (n / 2 ^ w % 2 == 1) ∷ bits w n

-- the value of a list of bits in base two
unfoldable pub number : List Bool → ℕ
number [] = 0
number (b ∷ bs) = (if b then 2 ^ length bs else 0) + number bs

-- the lexicographic order: a proper beginning comes first, and at the first difference 0 comes before 1
abbrev pub bit_cmp : List Bool → List Bool → Ordering
bit_cmp = slice_cmp bool_cmp

-- whether two lists have the same bits
abbrev pub bit_eq : List Bool → List Bool → Bool
bit_eq = pointwise beq
