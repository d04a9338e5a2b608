use Rattle.std.proofs.Common.{◌≢◌, ◌↔◌, Bool, List, length, map}
use Rattle.std.specs.declared.cmp.Ordering.TheVariants.{Greater}
use Rattle.cidr.specs.model.Bits.{bit_cmp}
use Rattle.cidr_table.specs.model.Cover.{Covers}
use Rattle.cidr_sets.proofs.Cuts.{IsSuffix}
use Rattle.cidr_sets.proofs.rests.skip.Given as goal

-- what was left out has no address of the network or behind it
abbrev pub invariant-loop-first : goal.invariant-loop-first
invariant-loop-first g l =
    let f = g.C.BitString.bits in
    IsSuffix (map f l.left) (map f l.others)
    × ((a : List Bool) → bit_cmp (f l.network) a ≢ Greater → Covers (map f l.others) a ↔ Covers (map f l.left) a)

abbrev pub decreases-loop-first : goal.decreases-loop-first
decreases-loop-first g l = length l.left
