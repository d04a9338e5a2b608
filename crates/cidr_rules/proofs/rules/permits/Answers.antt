use Rattle.std.proofs.Common.{◌<◌, ◌≤◌, length, sym, ◌∙◌, arith}
use Rattle.cidr_rules.specs.Packets.{fields_of}
use Rattle.cidr_rules.proofs.Deciding.{permitted_end, permitted_held, permitted_other}
use Rattle.cidr_rules.proofs.rules.permits.Goals as goal

pub loop-rule-preserved : goal.loop-rule-preserved
loop-rule-preserved g c =
    let lt : c.loop-rule.rule-index < length c.args.rules.now = omega arith in
    c.loop-rule.invariant ∙ permitted_other g.A.FieldValue.number c.args.rules.now c.loop-rule.rule-index c.rule-item.result
    (fields_of g.A.FieldValue.number c.args.packet.now) lt c.rule-item.is (sym c.contains.ensures ∙ c.if-contains.false)

pub returns-then-contains : goal.returns-then-contains
returns-then-contains g c =
    let lt : c.loop-rule.rule-index < length c.args.rules.now = omega arith in
    c.is_permit.ensures ∙ sym (c.loop-rule.invariant ∙ permitted_held g.A.FieldValue.number c.args.rules.now c.loop-rule.rule-index c.rule-item.result
    (fields_of g.A.FieldValue.number c.args.packet.now) lt c.rule-item.is (sym c.contains.ensures ∙ c.if-contains.true))

pub returns : goal.returns
returns g c =
    let le : length c.args.rules.now ≤ c.loop-rule.rule-index = omega arith in
    sym (c.loop-rule.invariant ∙ permitted_end g.A.FieldValue.number c.args.rules.now c.loop-rule.rule-index (fields_of g.A.FieldValue.number c.args.packet.now) le)
