use Rattle.std.proofs.Common.{rules, ◌+◌, ◌<◌, ◌≤◌, length, ap, arith}
use Rattle.cidr_forwarding.specs.Trees.{sharing}
use Rattle.cidr_forwarding.specs.Plans.{tails}
use Rattle.cidr_forwarding.proofs.Passes.{depth_small}
use Rattle.cidr_forwarding.proofs.Sharing.{more_fits}
use Rattle.cidr_forwarding.proofs.Reading.{ended, narrowed, parted}
use Rattle.cidr_forwarding.proofs.halves.open.Goals as goal

pub returns-then-is_empty : goal.returns-then-is_empty
returns-then-is_empty g c holes = ended g.V.PartialEq.eq holes c.longer-own.ensures.rest (search rules)

pub shared-more-requires-clause-of : goal.shared-more-requires-clause-of
shared-more-requires-clause-of g c =
    let one = c.requires.of in (one.0, one.1, c.longer-own.ensures.of one.0 one.2)

pub overflow_add-result : goal.overflow_add-result
overflow_add-result g c =
    let rest = c.longer-own.result.1.now in
    let r = c.longer-own.ensures.rest in
    let some : 0 < length rest = search rules in
    let small : c.args.depth < 129 = depth_small g.C.BitString.bits c.args.depth rest r.node r.deep some in
    omega (arith, c.shared-more.ensures, more_fits g.C.BitString.bits c.args.depth rest r.node small)

pub returns-then-more-gt1 : goal.returns-then-more-gt1
returns-then-more-gt1 g c holes =
    let some : 0 < length c.longer-own.result.1.now = search rules in
    narrowed g.V.PartialEq.eq holes c.longer-own.ensures.rest some c.longer-own.ensures.of c.requires.tells (omega (arith, c.if-more-gt1.true, c.shared-more.ensures))
    (c.args.depth + c.shared-more.result) (ap (λ k. c.args.depth + k) c.shared-more.ensures) c.index-rest-0.result c.index-rest-0.is

pub returns : goal.returns
returns g c holes =
    let some : 0 < length c.longer-own.result.1.now = search rules in
    let few : sharing (tails g.C.BitString.bits c.args.depth c.longer-own.result.1.now) ≤ 1 = omega (arith, c.if-more-gt1.false, c.shared-more.ensures) in
    parted g.V.PartialEq.eq holes c.longer-own.ensures.rest some c.longer-own.ensures.of c.split.ensures few c.index-rest-0-2.result c.index-rest-0-2.is
