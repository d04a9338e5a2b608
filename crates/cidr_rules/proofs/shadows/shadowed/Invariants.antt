use Rattle.std.proofs.Common.{◌≤◌, ◌+◌, ◌*◌, length}
use Rattle.cidr_rules.specs.Lists.{IsShadowed, most_parts}
use Rattle.cidr_rules.proofs.Needless.{AreIndices}
use Rattle.cidr_rules.proofs.shadows.shadowed.Given as goal

abbrev pub invariant-loop-i : goal.invariant-loop-i
invariant-loop-i g l = record {
  indices : AreIndices (IsShadowed g.A.FieldValue.number l.rules) l.i l.out.items;
  spent : l.limit ≤ l.budget + l.i * most_parts (length l.rules);
}
