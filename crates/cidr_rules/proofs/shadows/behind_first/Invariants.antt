use Rattle.std.proofs.Common.{◌≡◌, drop, take}
use Rattle.cidr_rules.proofs.shadows.behind_first.Given as goal

abbrev pub invariant-loop-i : goal.invariant-loop-i
invariant-loop-i g l = l.rest.items ≡ drop 1 (take l.i l.rules)
