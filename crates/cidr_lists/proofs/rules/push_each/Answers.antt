use Rattle.std.proofs.Common.{map}
use Rattle.cidr_lists.specs.Rules.{shadow_line}
use Rattle.cidr_lists.proofs.PrintedTexts.{all_appended, none_appended, one_appended}
use Rattle.cidr_lists.proofs.rules.push_each.Goals as goal

pub loop-shadow-init : goal.loop-shadow-init
loop-shadow-init g c =
    none_appended (λ s. shadow_line c.args.file.now (map (λ rule. rule.1.number) c.args.rules.now) (s.rule, s.by.items)) c.args.text.now.items c.args.shadows.now

pub loop-shadow-preserved : goal.loop-shadow-preserved
loop-shadow-preserved g c =
    one_appended (λ s. shadow_line c.args.file.now (map (λ rule. rule.1.number) c.args.rules.now) (s.rule, s.by.items)) c.args.text.now.items c.args.shadows.now
    c.loop-shadow.shadow-index c.shadow-item.result c.loop-shadow.text.items c.push_shadow.new.text.items c.loop-shadow-test.true c.shadow-item.is c.loop-shadow.invariant
    c.in_ok-push_shadow.ensures

pub returns : goal.returns
returns g c =
    all_appended (λ s. shadow_line c.args.file.now (map (λ rule. rule.1.number) c.args.rules.now) (s.rule, s.by.items)) c.args.text.now.items c.args.shadows.now
    c.loop-shadow.shadow-index c.loop-shadow.text.items c.loop-shadow-test.false c.loop-shadow.invariant
