use Rattle.std.proofs.Common.{List, map, sym, subst, arith, None}
use Rattle.std.proofs.lemmas.Bool.Decides.{not_from_Decides}
use Rattle.cidr_table.specs.model.Cover.{IsReduced}
use Rattle.cidr_sets.specs.model.Pools.{IsBestFree}
use Rattle.cidr_sets.proofs.Free.{best_new, best_kept, best_stays, best_of_all, none_at_all}
use Rattle.cidr_sets.proofs.set.NetworkSet.best_free.Goals as goal
use Rattle.cidr_sets.proofs.set.NetworkSet.best_free.Goals.{then-is_smaller+in-Some, then-is_smaller+in_default, else-is_smaller}

pub loop-network-preserved : goal.loop-network-preserved
loop-network-preserved g c =
    let f = g.C.BitString.bits in
    let N = g.C.PoolNetwork.IsNetwork in
    let size = g.C.PoolNetwork.addresses in
    let room = g.C.BitString.room in
    let sized = g.met.C.PoolNetwork.sized in
    let l = c.loop-network in
    let xs = c.as_slice-network-items.result.now in
    let x = c.network-item.result in
    let reduced = subst (λ (s : List g.row.C.Denot). IsReduced 129 (map f s)) (sym c.as_slice-network-items.ensures.networks)
    c.as_slice-network-items.ensures.reduced in
    elim c.if-is_smaller.branch [
      | then-is_smaller+in-Some w ↦ rw w.best-is (best_new N c.args.len f xs size l.network-index x c.loop-network-test.true c.network-item.is
          room sized l.best w.in-Some.first reduced l.invariant (c.is_smaller.ensures.0 w.if-is_smaller.true) w.in-Some.ensures)
      | then-is_smaller+in_default w ↦ rw w.best-is (best_kept N c.args.len f xs size l.network-index x c.loop-network-test.true c.network-item.is
          l.best l.invariant w.in_default.ensures)
      | else-is_smaller w ↦ rw w.best-is (best_stays N c.args.len f xs size l.network-index x c.loop-network-test.true c.network-item.is
          room sized l.best reduced l.invariant (not_from_Decides c.is_smaller.result c.is_smaller.ensures w.if-is_smaller.false))
    ]

pub returns-in-Some-best-clause-best : goal.returns-in-Some-best-clause-best
returns-in-Some-best-clause-best g c =
    let f = g.C.BitString.bits in
    let N = g.C.PoolNetwork.IsNetwork in
    let xs = c.as_slice-network-items.result.now in
    let best = best_of_all N c.args.len f xs g.C.PoolNetwork.addresses c.loop-network.network-index c.in-Some-best.field-0-0 c.in-Some-best.first
    (omega (arith, c.loop-network-test.false)) (rw c.in-Some-best.is at c.loop-network.invariant) in
    rw (← c.as_slice-network-items.ensures.networks) best

pub returns-in-None-clause-best : goal.returns-in-None-clause-best
returns-in-None-clause-best g c =
    let f = g.C.BitString.bits in
    let N = g.C.PoolNetwork.IsNetwork in
    subst (λ (s : List g.row.C.Denot). IsBestFree N g.C.PoolNetwork.addresses (map f s) c.args.len None) c.as_slice-network-items.ensures.networks
    (none_at_all N c.args.len f c.as_slice-network-items.result.now c.loop-network.network-index
    (omega (arith, c.loop-network-test.false)) (rw c.in-None.is at c.loop-network.invariant))
