use Rattle.std.proofs.Common.{◌≡◌}
use Rattle.cidr_mmdb.specs.Metadata.{value_of}
use Rattle.cidr_mmdb.proofs.metadata.value_of.Given as goal

abbrev pub invariant-loop-left : goal.invariant-loop-left
invariant-loop-left l = value_of l.section l.name l.left l.place ≡ value_of l.section l.name l.pairs l.at

abbrev pub decreases-loop-left : goal.decreases-loop-left
decreases-loop-left l = l.left
