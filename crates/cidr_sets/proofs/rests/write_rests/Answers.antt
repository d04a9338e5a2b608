use Rattle.std.proofs.Common.{◌≡◌, length, map, subst, arith}
use Rattle.cidr_table.proofs.Stacks.{spread_from_reduced}
use Rattle.cidr_sets.proofs.Cuts.{IsCutting, cutting_more, cutting_none, cutting_over, cutting_set}
use Rattle.cidr_sets.proofs.Joining.{by_none, nothing, on_err}
use Rattle.cidr_sets.proofs.rests.write_rests.Goals as goal

pub loop-network-init : goal.loop-network-init
loop-network-init g c =
    let f = g.C.BitString.bits in
    let these = map f c.args.networks.now in
    let those = map f c.args.others.now in (
      rw c.requires.none (cutting_none these those c.requires.networks.ascending (spread_from_reduced 129 these c.requires.networks).apart
          c.requires.others.ascending (spread_from_reduced 129 those c.requires.others).apart),
      omega arith,
      g.met.O.Writable.stay c.args.out.now,
    )

pub returns-in_err-left-clause-short : goal.returns-in_err-left-clause-short
returns-in_err-left-clause-short g c =
    let f = g.C.BitString.bits in
    let l = c.loop-network in
    let these = map f c.args.networks.now in
    let those = map f c.args.others.now in
    let done = map f (g.O.Writable.written l.out) in
    let left = map f l.left.now in
    on_err c.from_residual.result (λ s d. omega (
      arith,
      l.invariant.1,
      cutting_over these those c.requires.networks c.requires.others (f c.in-Some.network.now) (map f c.in-Some.behind.now) done left
          (g.O.Writable.room l.out) (subst (λ todo. IsCutting these those done (map f todo) left) c.in-Some.ensures.cases.0 l.invariant.0)
          c.in_err-left.ensures.over s d,
    ))

pub loop-network-preserved : goal.loop-network-preserved
loop-network-preserved g c =
    let f = g.C.BitString.bits in
    let l = c.loop-network in
    let these = map f c.args.networks.now in
    let those = map f c.args.others.now in
    let done = map f (g.O.Writable.written l.out) in
    let left = map f l.left.now in (
      cutting_more these those c.requires.networks c.requires.others (f c.in-Some.network.now) (map f c.in-Some.behind.now) done
          (map f (g.O.Writable.written c.write_rest.new.out)) left (map f c.in_ok-left.left.now)
          (subst (λ todo. IsCutting these those done (map f todo) left) c.in-Some.ensures.cases.0 l.invariant.0)
          c.in_ok-left.ensures.cut,
      omega (arith, l.invariant.1, c.write_rest.ensures.room),
      g.met.O.Writable.follow _ _ _ l.invariant.2 c.write_rest.ensures.one,
    )

pub returns-clause-set : goal.returns-clause-set
returns-clause-set g c =
    let f = g.C.BitString.bits in
    let l = c.loop-network in
    let these = map f c.args.networks.now in
    let those = map f c.args.others.now in
    let done = map f (g.O.Writable.written l.out) in
    let left = map f l.left.now in
    let none = nothing l.todo.now
    (by_none c.split_first.result (length l.todo.now ≡ 0) _ c.in_default.not-Some c.split_first.ensures.cases) in
    cutting_set these those done left (subst (λ todo. IsCutting these those done (map f todo) left) none l.invariant.0)
