use Rattle.std.proofs.Common.{Bool, List, map}
use Rattle.cidr_sets.specs.model.Ranges.{IsInSome}
use Rattle.cidr_sets.specs.model.Sets.{IsSetOf}
use Rattle.cidr_uses.proofs.ranges_and_back.set_and_back.Given as goal

-- the set of the ranges so far
abbrev pub invariant-loop-range : goal.invariant-loop-range
invariant-loop-range g l =
    let bits = g.C.Addressed.address_bits in
    IsSetOf 129 (IsInSome (map {B = List Bool × List Bool} (λ r. (bits r.first, bits r.last)) l.yielded)) (map g.C.BitString.bits l.again)
