use Rattle.std.proofs.Common.{◌+◌, ◌-◌, ◌/◌, arith}
use Rattle.cidr_forwarding.proofs.Splits.{next_read, down_read, up_read, split_at}
use Rattle.cidr_forwarding.proofs.halves.split.Goals as goal

pub get-requires : goal.get-requires
get-requires g c =
    let mid = c.loop-low.low + (c.loop-low.high - c.loop-low.low) / 2 in
    next_read g.C.BitString.bits c.args.depth c.args.rows.now c.requires.node c.requires.deep c.loop-low.low c.loop-low.high mid c.loop-low.invariant
    (omega arith) (omega (arith, c.loop-low-test.true)) c.index-rows-mid.result c.index-rows-mid.is

pub loop-low-preserved-then-get : goal.loop-low-preserved-then-get
loop-low-preserved-then-get g c =
    let mid = c.loop-low.low + (c.loop-low.high - c.loop-low.low) / 2 in
    down_read g.C.BitString.bits c.args.depth c.args.rows.now c.requires.node c.requires.deep c.loop-low.low c.loop-low.high mid c.loop-low.invariant
    (omega arith) (omega (arith, c.loop-low-test.true)) c.index-rows-mid.result c.index-rows-mid.is c.if-get.ensures

pub loop-low-preserved : goal.loop-low-preserved
loop-low-preserved g c =
    let mid = c.loop-low.low + (c.loop-low.high - c.loop-low.low) / 2 in
    up_read g.C.BitString.bits c.args.depth c.args.rows.now c.requires.node c.requires.deep c.loop-low.low c.loop-low.high mid c.loop-low.invariant
    (omega arith) (omega (arith, c.loop-low-test.true)) c.index-rows-mid.result c.index-rows-mid.is c.if-get.ensures

pub returns : goal.returns
returns g c = split_at g.C.BitString.bits c.args.depth c.loop-low.invariant (omega (arith, c.loop-low-test.false)) c.split_at.ensures.front c.split_at.ensures.back
