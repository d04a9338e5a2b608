use Rattle.std.proofs.Common.{◌≡◌, map, take}
use Rattle.std.specs.List.{All}
use Rattle.cidr_sets.specs.model.FirstRules.{AreDecidingRules}
use Rattle.cidr_sets.proofs.access.shadowed_by.Given as goal

-- the rules so far, each with those that decide the addresses of its network
abbrev pub invariant-loop-rule : goal.invariant-loop-rule
invariant-loop-rule g l = record {
  rules : map (λ s. s.rule) l.out.items ≡ take l.rule-index l.rule-items;
  by : All (λ s. AreDecidingRules 129 (map (λ r. g.C.BitString.bits r.network) l.rules) s.rule s.by.items) l.out.items;
}
