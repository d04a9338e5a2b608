use Rattle.std.proofs.Common.{ap, ◌∙◌}
use Rattle.std.proofs.lemmas.List.{take_all}
use Rattle.cidr_routes.specs.Lengths.{rules_of}
use Rattle.cidr_routes.proofs.Lengths.{rules_with, rules_without, told}
use Rattle.cidr_routes.proofs.lists.rules_of_length.Goals as goal
use Rattle.cidr_routes.proofs.lists.rules_of_length.Goals.{then-has_length+in_ok-push, else-has_length}

pub loop-row-preserved : goal.loop-row-preserved
loop-row-preserved g c =
    let f = g.C.BitString.bits in
    let l = c.loop-row in
    let x = c.row-item.result in
    let is = told f c.has_length.result c.args.len x c.has_length.ensures in
    elim c.if-has_length.branch [
      | then-has_length+in_ok-push w ↦ rw (w.rules-is, w.in_ok-push.ensures.items)
          (rules_with f c.args.len c.args.rows.now l.row-index x c.loop-row-test.true c.row-item.is l.rules.items l.invariant (is ∙ w.if-has_length.true))
      | else-has_length w ↦ rw w.rules-is
          (rules_without f c.args.len c.args.rows.now l.row-index x c.loop-row-test.true c.row-item.is l.rules.items l.invariant (is ∙ w.if-has_length.false))
    ]

pub returns : goal.returns
returns g c =
    let l = c.loop-row in
    l.invariant ∙ ap (rules_of g.C.BitString.bits c.args.len) (take_all l.row-index c.args.rows.now c.loop-row-test.false)
