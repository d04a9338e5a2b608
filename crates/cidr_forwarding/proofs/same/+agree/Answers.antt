use Rattle.std.proofs.Common.{◌∙◌, ◌&&◌, ◌+◌, sym, ap, ap₂, arith}
use Rattle.std.specs.Option.{option_eq}
use Rattle.cidr_forwarding.specs.Trees.{agree}
use Rattle.cidr_forwarding.specs.Plans.{planned}
use Rattle.cidr_forwarding.proofs.Agreement.{agree_halves}
use Rattle.cidr_forwarding.proofs.same.+agree.Goals as goal

pub returns-then-are_ended : goal.returns-then-are_ended
returns-then-are_ended g t c =
    c.eq.ensures
    ∙ sym (ap₂ (agree (option_eq g.V.PartialEq.eq)) (c.halve-one.ensures.ended (c.are_ended.ensures.none c.if-are_ended.true))
    (c.halve-other.ensures.ended (c.are_ended.ensures.other_none c.if-are_ended.true)))

pub overflow_add-depth : goal.overflow_add-depth
overflow_add-depth g t c = omega (arith, c.are_ended.ensures.room c.if-are_ended.false)

pub agree-requires : goal.agree-requires
agree-requires g t c κs within =
    (omega (arith, c.decreases, c.are_ended.ensures.room c.if-are_ended.false), (within.0, (within.1, (c.halve-one.ensures.low_node, c.halve-other.ensures.low_node))))

pub overflow_add-depth-then-agree : goal.overflow_add-depth-then-agree
overflow_add-depth-then-agree g t c = omega (arith, c.are_ended.ensures.room c.if-are_ended.false)

pub agree-requires-then-agree : goal.agree-requires-then-agree
agree-requires-then-agree g t c κs within =
    (omega (arith, c.decreases, c.are_ended.ensures.room c.if-are_ended.false), (within.0, (within.1, (c.halve-one.ensures.high_node, c.halve-other.ensures.high_node))))

pub returns-then-agree : goal.returns-then-agree
returns-then-agree g t c =
    let same = option_eq g.V.PartialEq.eq in
    let upper = agree same (planned g.C.BitString.bits (c.args.depth + 1) c.halve-one.result.own c.halve-one.result.upper.now)
    (planned g.C.BitString.bits (c.args.depth + 1) c.halve-other.result.own c.halve-other.result.upper.now) in
    c.agree-then-agree.ensures ∙ sym (agree_halves same c.halve-one.ensures.plan c.halve-other.ensures.plan ∙ ap (λ b. b && upper) (sym c.agree.ensures ∙ c.if-agree.true))

pub returns-else-agree : goal.returns-else-agree
returns-else-agree g t c =
    let same = option_eq g.V.PartialEq.eq in
    let upper = agree same (planned g.C.BitString.bits (c.args.depth + 1) c.halve-one.result.own c.halve-one.result.upper.now)
    (planned g.C.BitString.bits (c.args.depth + 1) c.halve-other.result.own c.halve-other.result.upper.now) in
    c.if-agree.false ∙ sym (agree_halves same c.halve-one.ensures.plan c.halve-other.ensures.plan ∙ ap (λ b. b && upper) (sym c.agree.ensures ∙ c.if-agree.false))
