use Rattle.std.proofs.lemmas.Result.{err_from_is_err_and}
use Rattle.cidr_lists.specs.Lists.{text_by}
use Rattle.cidr_lists.specs.Rules.{HaveRules, IsRulesError}
use Rattle.cidr_lists.proofs.Anywhere.{all_of, next_is}
use Rattle.cidr_lists.proofs.RuleTexts.{last_rule, no_rules, rule_in_error, rule_read}
use Rattle.cidr_lists.proofs.WholeTexts.{passed_on}
use Rattle.cidr_lists.proofs.rules.Rules.of_text.Goals as goal

pub loop-rules-init : goal.loop-rules-init
loop-rules-init c = no_rules c.args.host_bits c.args.text.now c.new-rules.result c.new-rules.ensures

pub returns-in_err-add_rule_line : goal.returns-in_err-add_rule_line
returns-in_err-add_rule_line c =
    let (y, is, same) = err_from_is_err_and c.from_residual.result c.from_residual.ensures.1 in
    let text = text_by c.args.host_bits c.args.text.now in
    passed_on (HaveRules text) (IsRulesError text) _ y _ is same
    (rule_in_error c.args.host_bits c.args.text.now c.loop-rules.rest.now c.split_at.result.0.now c.line_len.result c.loop-rules.number c.loop-rules.rules
    c.add_rule_line.new.rules c.line_len.ensures.first c.split_at.ensures.front c.loop-rules.invariant _ c.line_len.ensures.fits c.in_err-add_rule_line.ensures)

pub returns-in_default : goal.returns-in_default
returns-in_default c =
    let rest = c.loop-rules.rest.now in
    last_rule c.args.host_bits c.args.text.now rest c.split_at.result.0.now c.line_len.result c.loop-rules.number c.loop-rules.rules
    c.add_rule_line.new.rules c.line_len.ensures.first c.split_at.ensures.front c.loop-rules.invariant
    (all_of rest c.line_len.result c.line_len.ensures.fits (rw c.split_at.ensures.back at c.in_default.ensures.cases))
    c.in_ok-add_rule_line.ensures

pub loop-rules-preserved : goal.loop-rules-preserved
loop-rules-preserved c =
    let rest = c.loop-rules.rest.now in
    let split = rw c.split_at.ensures.back at c.in-Some.ensures.cases.0 in
    let next = next_is rest c.in-Some.next.now c.line_len.result c.in-Some.field-0-0.now c.line_len.ensures.fits split in
    rule_read c.args.host_bits c.args.text.now rest c.split_at.result.0.now c.line_len.result c.loop-rules.number c.loop-rules.rules
    c.add_rule_line.new.rules c.line_len.ensures.first c.split_at.ensures.front c.loop-rules.invariant c.in-Some.next.now next.0 next.1 c.in_ok-add_rule_line.ensures
