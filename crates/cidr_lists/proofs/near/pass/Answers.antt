use Rattle.cidr_lists.proofs.KeptNear.{none_changed}
use Rattle.cidr_lists.proofs.NumberedRows.{row_here}
use Rattle.cidr_lists.proofs.Passing.{again_others, again_passed, half_within, new_others, new_passed}
use Rattle.cidr_lists.proofs.near.pass.Goals as goal

pub put_first-requires : goal.put_first-requires
put_first-requires g c = c.requires.rows.within c.row_at-row.result (row_here c.args.rows.now c.args.index c.row_at-row.result c.row_at-row.ensures)

pub returns-in-Some : goal.returns-in-Some
returns-in-Some g c = record {
  passed = again_passed g.C.BitString.bits g.met.C.NetworkBits.determined c.args.rows.now c.requires.ascending c.args.index c.row_at-row.result c.row_at-row.ensures
      c.args.near.now c.requires.rows c.args.nest.now.items c.close-closed.new.nest.items c.close-closed.result c.last_of-outer.result c.requires.passed c.close-closed.ensures
      (rw c.as_slice.ensures.value at c.last_of-outer.ensures) c.in-Some.first c.put_first.new.near c.in-Some.ensures c.put_first.ensures;
  others = again_others g.C.BitString.bits g.met.C.NetworkBits.determined c.args.rows.now c.requires.ascending c.args.index c.row_at-row.result c.row_at-row.ensures
      c.args.near.now c.requires.rows c.args.nest.now.items c.close-closed.new.nest.items c.close-closed.result c.last_of-outer.result c.requires.passed c.close-closed.ensures
      (rw c.as_slice.ensures.value at c.last_of-outer.ensures) c.in-Some.first c.put_first.new.near c.put_first.ensures;
}

pub returns-in_err-push-clause-others : goal.returns-in_err-push-clause-others
returns-in_err-push-clause-others g c = none_changed c.args.rows.now c.args.near.now

pub put-requires : goal.put-requires
put-requires g c = c.requires.rows.within c.row_at-row.result (row_here c.args.rows.now c.args.index c.row_at-row.result c.row_at-row.ensures)

pub put_half-requires : goal.put_half-requires
put_half-requires g c =
    half_within g.C.BitString.bits g.met.C.NetworkBits.determined c.args.rows.now c.requires.ascending c.args.index c.row_at-row.result c.row_at-row.ensures
    c.args.near.now c.requires.rows c.args.nest.now.items c.close-closed.new.nest.items c.close-closed.result c.last_of-outer.result c.requires.passed c.close-closed.ensures
    (rw c.as_slice.ensures.value at c.last_of-outer.ensures) c.in_default.ensures c.half_of-half.result c.half_of-half.ensures c.put.new.near _ c.put.ensures

pub returns : goal.returns
returns g c = record {
  passed = new_passed g.C.BitString.bits g.met.C.NetworkBits.determined c.args.rows.now c.requires.ascending c.args.index c.row_at-row.result c.row_at-row.ensures
      c.args.near.now c.requires.rows c.args.nest.now.items c.close-closed.new.nest.items c.close-closed.result c.last_of-outer.result c.requires.passed c.close-closed.ensures
      (rw c.as_slice.ensures.value at c.last_of-outer.ensures) c.in_default.ensures c.half_of-half.result c.half_of-half.ensures c.put.new.near c.put_half.new.near
      (rw c.index_of.ensures at c.put.ensures) c.put_half.ensures c.push.new.self.items c.in_ok-push.ensures.items;
  others = new_others g.C.BitString.bits g.met.C.NetworkBits.determined c.args.rows.now c.requires.ascending c.args.index c.row_at-row.result c.row_at-row.ensures
      c.args.near.now c.requires.rows c.args.nest.now.items c.close-closed.new.nest.items c.close-closed.result c.last_of-outer.result c.requires.passed c.close-closed.ensures
      (rw c.as_slice.ensures.value at c.last_of-outer.ensures) c.in_default.ensures c.half_of-half.result c.half_of-half.ensures c.put.new.near c.put_half.new.near _
      c.put.ensures c.put_half.ensures;
}
