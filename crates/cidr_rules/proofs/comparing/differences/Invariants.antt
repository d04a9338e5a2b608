use Rattle.std.proofs.Common.{◌≤◌, ◌+◌, ◌*◌, length}
use Rattle.cidr_rules.specs.Lists.{most_parts}
use Rattle.cidr_rules.specs.Searches.{AreTold}
use Rattle.cidr_rules.proofs.comparing.differences.Given as goal

abbrev pub invariant-loop-i : goal.invariant-loop-i
invariant-loop-i g l = record {
  told : AreTold g.A.FieldValue.number l.rules l.others l.i 0 l.out.items;
  few : length l.out.items + l.budget ≤ l.limit;
  spent : l.limit ≤ l.budget + l.i * ((length l.others + 1) * most_parts (length l.rules + length l.others));
}
