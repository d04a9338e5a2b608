use Rattle.std.proofs.Common.{◌≡◌, ◌∙◌, sym, ap}
use Rattle.std.specs.Option.{option_eq}
use Rattle.cidr_forwarding.specs.Choices.{is_listed}
use Rattle.cidr_forwarding.proofs.Steps.{passes, fails}
use Rattle.cidr_forwarding.proofs.Smallest.{decides_option}
use Rattle.cidr_forwarding.proofs.Sorted.{has_moved}
use Rattle.cidr_forwarding.proofs.candidates.push_shared.Goals as goal
use Rattle.cidr_forwarding.proofs.candidates.push_shared.Goals.{then-holds+in_ok-push, else-holds, then-holds_ascending+in_ok-push-2, else-holds_ascending}

pub loop-value-preserved : goal.loop-value-preserved
loop-value-preserved g c =
    let p = is_listed (option_eq g.V.PartialEq.eq) c.args.other.now in
    let xs = c.args.values.now in
    let old = c.args.out.now.items in
    elim c.if-holds.branch [
      | then-holds+in_ok-push w ↦
          ap (λ v. v.items) w.out-is ∙ w.in_ok-push.ensures.items
          ∙ passes p xs old c.loop-value-test.true c.value-item.is c.loop-value.invariant (sym c.holds.ensures ∙ w.if-holds.true)
      | else-holds w ↦ ap (λ v. v.items) w.out-is ∙ fails p xs old c.loop-value-test.true c.value-item.is c.loop-value.invariant (sym c.holds.ensures ∙ w.if-holds.false)
    ]

pub loop-wanted-preserved : goal.loop-wanted-preserved
loop-wanted-preserved g c =
    let same = option_eq g.V.PartialEq.eq in
    let p = is_listed same c.args.other.now in
    let xs = c.args.values.now in
    let old = c.args.out.now.items in
    let told : c.holds_ascending.result ≡ p c.wanted-item.result =
    c.holds_ascending.ensures ∙ ap (λ l. is_listed same l c.wanted-item.result) c.deref.ensures.value
    ∙ has_moved same (decides_option g.V.PartialEq.eq c.requires.tells) c.args.other.now c.in_ok-sorted.sorted.items c.in_ok-sorted.ensures.same c.wanted-item.result in
    elim c.if-holds_ascending.branch [
      | then-holds_ascending+in_ok-push-2 w ↦
          ap (λ v. v.items) w.out-is ∙ w.in_ok-push-2.ensures.items
          ∙ passes p xs old c.loop-wanted-test.true c.wanted-item.is c.loop-wanted.invariant (sym told ∙ w.if-holds_ascending.true)
      | else-holds_ascending w ↦ ap (λ v. v.items) w.out-is ∙ fails p xs old c.loop-wanted-test.true c.wanted-item.is c.loop-wanted.invariant (sym told ∙ w.if-holds_ascending.false)
    ]
