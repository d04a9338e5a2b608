use Rattle.std.proofs.Common.{◌≡◌, ◌<◌, ◌≤◌, ◌+◌, ◌*◌, length}
use Rattle.std.specs.List.{remove}
use Rattle.cidr_rules.specs.Lists.{IsRedundant, most_parts}
use Rattle.cidr_rules.proofs.Needless.{AreIndices}
use Rattle.cidr_rules.proofs.shadows.redundant.Given as goal

abbrev pub invariant-loop-i : goal.invariant-loop-i
invariant-loop-i g l = record {
  indices : AreIndices (IsRedundant g.A.FieldValue.number l.rules) l.i l.out.items;
  rest : l.i < length l.rules → l.rest.items ≡ remove l.rules l.i;
  spent : l.limit ≤ l.budget + l.i * (length l.rules * most_parts (2 * length l.rules));
}
