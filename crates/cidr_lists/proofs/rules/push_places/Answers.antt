use Rattle.std.proofs.Common.{◌++◌, codes, get_or, map}
use Rattle.cidr_lists.specs.Rules.{rule_place}
use Rattle.cidr_lists.proofs.PrintedTexts.{all_appended, none_appended}
use Rattle.cidr_lists.proofs.Shadows.{index_appended}
use Rattle.cidr_lists.proofs.StyledTexts.{two_pushed}
use Rattle.cidr_lists.proofs.rules.push_places.Goals as goal

pub loop-index-init : goal.loop-index-init
loop-index-init g c =
    none_appended (λ j. codes " " ++ rule_place c.args.file.now (map (λ rule. rule.1.number) c.args.rules.now) j) c.args.text.now.items c.args.indices.now

pub loop-index-preserved : goal.loop-index-preserved
loop-index-preserved g c =
    index_appended (λ j. codes " " ++ rule_place c.args.file.now (map (λ rule. rule.1.number) c.args.rules.now) j) c.args.text.now.items c.args.indices.now
    c.loop-index.index-index c.loop-index.text.items c.push_place.new.text.items c.loop-index-test.true c.loop-index.invariant
    (two_pushed c.loop-index.text.items c.push.new.self.items c.push_place.new.text.items (codes " ")
    (rule_place c.args.file.now (map (λ rule. rule.1.number) c.args.rules.now) (get_or c.args.indices.now c.loop-index.index-index 0)) c.in_ok-push.ensures.items c.in_ok-push_place.ensures)

pub returns : goal.returns
returns g c =
    all_appended (λ j. codes " " ++ rule_place c.args.file.now (map (λ rule. rule.1.number) c.args.rules.now) j) c.args.text.now.items c.args.indices.now
    c.loop-index.index-index c.loop-index.text.items c.loop-index-test.false c.loop-index.invariant
