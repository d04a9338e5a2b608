use Rattle.std.proofs.Common.{take}
use Rattle.cidr_rules.specs.Packets.{ranges_of}
use Rattle.cidr_rules.specs.Searches.{AreHoles}
use Rattle.cidr_rules.proofs.search.push_holes.Given as goal

abbrev pub invariant-loop-rule : goal.invariant-loop-rule
invariant-loop-rule g l = AreHoles g.A.FieldValue.number (ranges_of g.A.FieldValue.number l.region) (take l.rule-index l.rules) l.initial.holes.items l.holes.items
