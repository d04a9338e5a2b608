use Rattle.std.proofs.Common.{◌≤◌, ◌+◌, ◌*◌, length}
use Rattle.cidr_rules.specs.Lists.{most_parts}
use Rattle.cidr_rules.specs.Searches.{AreTold}
use Rattle.cidr_rules.proofs.comparing.push_rule.Given as goal

abbrev pub invariant-loop-j : goal.invariant-loop-j
invariant-loop-j g l = record {
  told : AreTold g.A.FieldValue.number l.rules l.others l.i l.j l.out.items;
  few : length l.out.items + l.budget ≤ length l.initial.out.items + l.initial.budget;
  spent : l.initial.budget ≤ l.budget + l.j * most_parts (length l.rules + length l.others);
}
