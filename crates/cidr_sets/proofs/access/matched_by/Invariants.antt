use Rattle.std.proofs.Common.{◌≡◌, map, take}
use Rattle.cidr_sets.proofs.access.matched_by.Given as goal

-- the networks of the rules so far
abbrev pub invariant-loop-rule : goal.invariant-loop-rule
invariant-loop-rule g l = map g.C.BitString.bits l.networks.items ≡ map (λ r. g.C.BitString.bits r.network) (take l.rule-index l.rules)
