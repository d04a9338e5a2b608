use Rattle.std.proofs.Common.{◌<◌, ◌≤◌, length, sym, ◌∙◌, arith}
use Rattle.std.proofs.lemmas.Bool.{and_parts}
use Rattle.std.proofs.lemmas.List.{take_all}
use Rattle.cidr_rules.specs.Packets.{ranges_of}
use Rattle.cidr_rules.proofs.Holes.{hole_pushed, hole_skipped, holes_start}
use Rattle.cidr_rules.proofs.search.push_holes.Goals as goal
use Rattle.cidr_rules.proofs.search.push_holes.Goals.{then-is_hole+in_ok-push, else-is_hole}

pub loop-rule-init : goal.loop-rule-init
loop-rule-init g c = holes_start g.A.FieldValue.number (ranges_of g.A.FieldValue.number c.args.region.now) c.args.rules.now c.args.holes.now.items c.requires

pub loop-rule-preserved : goal.loop-rule-preserved
loop-rule-preserved g c =
    let lt : c.loop-rule.rule-index < length c.args.rules.now = omega arith in
    elim c.if-is_hole.branch [
      | then-is_hole+in_ok-push w ↦ rw (w.holes-is, w.in_ok-push.ensures.items)
          (hole_pushed g.A.FieldValue.number (ranges_of g.A.FieldValue.number c.args.region.now) c.args.rules.now c.loop-rule.rule-index c.rule-item.result lt c.rule-item.is
          c.args.holes.now.items c.loop-rule.holes.items c.loop-rule.invariant (and_parts _ _ (sym c.is_hole.ensures ∙ w.if-is_hole.true)).1)
      | else-is_hole w ↦ rw w.holes-is
          (hole_skipped g.A.FieldValue.number (ranges_of g.A.FieldValue.number c.args.region.now) c.args.rules.now c.loop-rule.rule-index c.rule-item.result lt c.rule-item.is
          c.args.holes.now.items c.loop-rule.holes.items c.loop-rule.invariant (sym c.is_hole.ensures ∙ w.if-is_hole.false))
    ]

pub returns : goal.returns
returns g c =
    let le : length c.args.rules.now ≤ c.loop-rule.rule-index = omega arith in
    rw (take_all c.loop-rule.rule-index c.args.rules.now le) at c.loop-rule.invariant
