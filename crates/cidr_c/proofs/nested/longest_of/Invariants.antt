use Rattle.cidr.specs.either.IpNetwork.{any_bits}
use Rattle.cidr_c.proofs.Outers.{IsEnd}
use Rattle.cidr_c.proofs.nested.longest_of.Given as goal

abbrev pub invariant-loop-end : goal.invariant-loop-end
invariant-loop-end l = IsEnd any_bits l.rows (any_bits l.asked) l.end

abbrev pub decreases-loop-end : goal.decreases-loop-end
decreases-loop-end l = l.end
