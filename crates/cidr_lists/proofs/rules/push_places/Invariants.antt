use Rattle.std.proofs.Common.{◌++◌, codes, map}
use Rattle.cidr_lists.specs.Rules.{rule_place}
use Rattle.cidr_lists.proofs.PrintedTexts.{AreAppended}
use Rattle.cidr_lists.proofs.rules.push_places.Given as goal

abbrev pub invariant-loop-index : goal.invariant-loop-index
invariant-loop-index g l =
    AreAppended (λ j. codes " " ++ rule_place l.file (map (λ rule. rule.1.number) l.rules) j) l.fn.text.items l.indices l.index-index l.text.items
