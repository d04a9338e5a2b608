use Rattle.std.proofs.Common.{◌≤◌, ◌+◌, ◌*◌, length}
use Rattle.cidr_rules.specs.Lists.{most_parts}
use Rattle.cidr_rules.specs.Searches.{stops_at}
use Rattle.cidr_rules.proofs.Pairs.{AreSame}
use Rattle.cidr_rules.proofs.comparing.packet_of_rule.Given as goal

abbrev pub invariant-loop-j : goal.invariant-loop-j
invariant-loop-j g l = record {
  same : AreSame g.A.FieldValue.number (stops_at g.A.FieldValue.number l.rules l.i) l.rules l.others l.others l.j;
  spent : l.initial.budget ≤ l.budget + l.j * most_parts (length l.rules + length l.others);
}
