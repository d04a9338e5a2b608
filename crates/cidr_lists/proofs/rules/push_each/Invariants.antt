use Rattle.std.proofs.Common.{map}
use Rattle.cidr_lists.specs.Rules.{shadow_line}
use Rattle.cidr_lists.proofs.PrintedTexts.{AreAppended}
use Rattle.cidr_lists.proofs.rules.push_each.Given as goal

abbrev pub invariant-loop-shadow : goal.invariant-loop-shadow
invariant-loop-shadow g l =
    AreAppended (λ s. shadow_line l.file (map (λ rule. rule.1.number) l.rules) (s.rule, s.by.items)) l.fn.text.items l.shadows l.shadow-index l.text.items
