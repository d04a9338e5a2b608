use Rattle.std.proofs.Common.{ap, arith, get_or, of_calls}
use Rattle.cidr_table.specs.model.Writing.{CallLeaves}
use Rattle.cidr_table.proofs.InTurn.{call_leaves, one_more, ends}
use Rattle.cidr_table.proofs.table.lends.write_each.Goals as goal

pub loop-index-preserved : goal.loop-index-preserved
loop-index-preserved g c =
    let at = c.loop-index in
    let row = get_or at.rows at.index c.index-rows-index.result in (
      search of_calls,
      one_more (CallLeaves g.F.FnMut.steps) c.args.write c.args.rows.now at.write c.write.new.self at.rows at.index row c.write.new.arg3
          (omega arith) (ap (get_or at.rows at.index) c.index-rows-index.is) (call_leaves g.F.FnMut.steps c.write.ensures.met) at.invariant.1,
    )

pub returns : goal.returns
returns g c =
    let at = c.loop-index in
    let over = c.loop-index-test.false in
    ends (CallLeaves g.F.FnMut.steps) c.args.write c.args.rows.now at.write at.rows at.index (omega arith) (omega arith) at.invariant.1
