use Rattle.std.proofs.Common.{rules, ◌∙◌, ap, false}
use Rattle.cidr_forwarding.specs.Choices.{not_of, is_free}
use Rattle.cidr_forwarding.proofs.Steps.{passes, fails, hole, no_hole}
use Rattle.cidr_forwarding.proofs.candidates.push_holes.Goals as goal
use Rattle.cidr_forwarding.proofs.candidates.push_holes.Goals.{then-is_none+in_ok-push, else-is_none}

pub loop-value-preserved : goal.loop-value-preserved
loop-value-preserved g c =
    let p = not_of (is_free false) in
    let xs = c.args.values.now in
    let old = c.args.out.now.items in
    let x = c.value-item.result in
    elim c.if-is_none.branch [
      | then-is_none+in_ok-push w ↦
          ap (λ v. v.items) w.out-is ∙ w.in_ok-push.ensures.items ∙ passes p xs old c.loop-value-test.true c.value-item.is c.loop-value.invariant (hole x (search rules))
      | else-is_none w ↦ ap (λ v. v.items) w.out-is ∙ fails p xs old c.loop-value-test.true c.value-item.is c.loop-value.invariant (no_hole x (search rules))
    ]
