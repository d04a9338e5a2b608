use Rattle.std.proofs.Common.{arith}
use Rattle.cidr_sets.proofs.Free.{begun_more}
use Rattle.cidr_sets.proofs.pools.lowest.Goals as goal

pub loop-lowest-preserved : goal.loop-lowest-preserved
loop-lowest-preserved g c =
    let f = g.C.BitString.bits in
    let room = g.C.BitString.room in
    let now = c.loop-lowest.lowest in
    let new = c.append.new.self in
    begun_more (f c.args.network.now) (f now) (f new) c.args.len (room now) (room new) c.loop-lowest.invariant
    (omega (arith, c.loop-lowest-test.true, c.len.ensures.value)) c.append.ensures.room c.append.ensures.bits
