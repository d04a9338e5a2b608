use Rattle.std.proofs.Common.{◌≡◌, ◌+◌}
use Rattle.cidr_mmdb.specs.Numerals.{shortest}
use Rattle.cidr_mmdb.proofs.numerals.shortest.Given as goal

abbrev pub invariant-loop-left : goal.invariant-loop-left
invariant-loop-left l = record {
  sum : l.places + l.left ≡ 23;
  same : shortest l.m l.unit l.places l.left ≡ shortest l.m l.unit 1 22;
}

abbrev pub decreases-loop-left : goal.decreases-loop-left
decreases-loop-left l = l.left
