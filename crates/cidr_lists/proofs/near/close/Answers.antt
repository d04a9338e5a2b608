use Rattle.std.proofs.Common.{◌≡◌, ◌∙◌, sym, arith, length, vec_len}
use Rattle.std.proofs.lemmas.Bool.{true≢false}
use Rattle.cidr_lists.proofs.OpenNetworks.{closes_here, closes_more, closes_shorter, closes_whole}
use Rattle.cidr_lists.proofs.near.close.Goals as goal

pub loop-row-init : goal.loop-row-init
loop-row-init g c = λ passed h. h

pub loop-row-preserved : goal.loop-row-preserved
loop-row-preserved g c =
    let size : vec_len c.loop-row.nest ≡ length c.loop-row.nest.items = omega arith in
    closes_more g.C.BitString.bits g.met.C.NetworkBits.determined c.args.network.now c.args.nest.now.items c.loop-row.nest.items c.pop.new.self.items c.loop-row.closed
    c.in-Some.row (vec_len c.loop-row.nest) (rw c.as_slice.ensures.value at c.in-Some.ensures)
    (λ begins. true≢false (sym (c.is_inside.ensures.1 begins) ∙ c.if-is_inside.false)) size c.pop.ensures.rest c.loop-row.invariant

pub loop-row-smaller : goal.loop-row-smaller
loop-row-smaller g c =
    let size : vec_len c.loop-row.nest ≡ length c.loop-row.nest.items = omega arith in
    closes_shorter g.C.BitString.bits g.met.C.NetworkBits.determined c.args.network.now c.args.nest.now.items c.loop-row.nest.items c.pop.new.self.items
    c.in-Some.row (vec_len c.loop-row.nest) (rw c.as_slice.ensures.value at c.in-Some.ensures) size c.pop.ensures.rest

pub returns-then-is_inside : goal.returns-then-is_inside
returns-then-is_inside g c =
    closes_here g.C.BitString.bits g.met.C.NetworkBits.determined c.args.network.now c.args.nest.now.items c.loop-row.nest.items c.loop-row.closed c.in-Some.row
    (rw c.as_slice.ensures.value at c.in-Some.ensures) (c.is_inside.ensures.0 c.if-is_inside.true) c.loop-row.invariant

pub returns : goal.returns
returns g c =
    closes_whole g.C.BitString.bits g.met.C.NetworkBits.determined c.args.network.now c.args.nest.now.items c.loop-row.nest.items c.loop-row.closed
    (rw c.as_slice.ensures.value at c.in_default.ensures) c.loop-row.invariant
