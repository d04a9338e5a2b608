use Rattle.std.proofs.Common.{◌≤◌, ◌+◌, ◌*◌, length, true}
use Rattle.cidr_rules.specs.Lists.{most_parts}
use Rattle.cidr_rules.proofs.Pairs.{AreSame}
use Rattle.cidr_rules.proofs.comparing.differing_packet.Given as goal

abbrev pub invariant-loop-i : goal.invariant-loop-i
invariant-loop-i g l = record {
  same : AreSame g.A.FieldValue.number (λ _. true) l.rules l.others l.rules l.i;
  spent : l.limit ≤ l.budget + l.i * ((length l.others + 1) * most_parts (length l.rules + length l.others));
}
