use Rattle.std.proofs.Common.{◌≤◌, ◌+◌, ◌*◌, length, take}
use Rattle.cidr_rules.specs.Lists.{most_parts}
use Rattle.cidr_rules.proofs.Needless.{IsAlike}
use Rattle.cidr_rules.proofs.shadows.pruned.Given as goal

abbrev pub invariant-loop-i : goal.invariant-loop-i
invariant-loop-i g l = record {
  alike : IsAlike g.A.FieldValue.number l.out.items (take l.i l.rules);
  spent : l.limit ≤ l.budget + l.i * most_parts (length l.rules);
}
