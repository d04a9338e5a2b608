use Rattle.std.proofs.Common.{◌≡◌, arith, length}
use Rattle.cidr_rows.proofs.KnownLengths.{added_all, added_first, added_next}
use Rattle.cidr_rows.proofs.lengths.add_lengths.Goals as goal

pub loop-i-init : goal.loop-i-init
loop-i-init g c = added_first g.C.BitString.bits (g.K.Keys.keys c.args.rows.now) c.args.lengths.now

pub loop-i-preserved : goal.loop-i-preserved
loop-i-preserved g c =
    rw (c.add_length.ensures, c.len.ensures.value) (
    added_next g.C.BitString.bits (g.K.Keys.keys c.args.rows.now) c.loop-i.i c.args.lengths.now c.loop-i.lengths c.key.result c.key.ensures c.loop-i.invariant)

pub returns : goal.returns
returns g c =
    let all : c.loop-i.i ≡ length (g.K.Keys.keys c.args.rows.now) = omega (arith, c.loop-i.auto.i-end, c.loop-i-test.false, c.len-i-end.ensures) in
    added_all g.C.BitString.bits (g.K.Keys.keys c.args.rows.now) c.args.lengths.now c.loop-i.lengths c.loop-i.auto.lengths (rw all at c.loop-i.invariant)
