use Rattle.std.proofs.Common.{map, drop}
use Rattle.cidr_sets.specs.model.Sets.{IsSetOf}
use Rattle.cidr_sets.specs.model.FirstRules.{IsPermitted}
use Rattle.cidr_sets.proofs.access.permitted_by_few.Given as goal

-- the set of what the rules from here on permit
abbrev pub invariant-loop-i : goal.invariant-loop-i
invariant-loop-i g l =
    IsSetOf 129 (IsPermitted (map (λ r. g.C.BitString.bits r.network) (drop l.i l.rules)) (map (λ r. r.action) (drop l.i l.rules)))
    (map g.C.BitString.bits l.set)
