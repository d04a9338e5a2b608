use Rattle.std.proofs.Common.{sym}
use Rattle.std.proofs.lemmas.Result.{err_from_is_err_and}
use Rattle.netset_commands.proofs.Blocks.{first_failed, second_failed, both_written}
use Rattle.netset_commands.proofs.commands.same.write_found.Goals as goal

pub returns-in_err-write_rows : goal.returns-in_err-write_rows
returns-in_err-write_rows g c =
    let (y, is, same) = err_from_is_err_and c.from_residual.result c.from_residual.ensures.1 in
    first_failed (g.S.Sink.state c.args.out.now) (g.S.Sink.state c.write_rows.new.out) _ _ c.from_residual.result y is (sym c.if-failed.ensures)
    (rw c.as_slice.ensures.value at c.in_err-write_rows.ensures)

pub returns-in_err-write_rows-2 : goal.returns-in_err-write_rows-2
returns-in_err-write_rows-2 g c =
    let (y, is, same) = err_from_is_err_and c.from_residual-in_err-write_rows-2.result c.from_residual-in_err-write_rows-2.ensures.1 in
    second_failed (g.S.Sink.state c.args.out.now) (g.S.Sink.state c.write_rows.new.out) (g.S.Sink.state c.write_rows-2.new.out) _ _
    c.from_residual-in_err-write_rows-2.result y is (sym c.if-failed.ensures)
    (rw c.as_slice.ensures.value at c.in_ok-write_rows.ensures) (rw c.as_slice-2.ensures.value at c.in_err-write_rows-2.ensures)

pub returns : goal.returns
returns g c =
    both_written (g.S.Sink.state c.args.out.now) (g.S.Sink.state c.write_rows.new.out) (g.S.Sink.state c.write_rows-2.new.out) (g.S.Sink.state c.flush.new.out) _ _
    c.flush.result (sym c.if-failed.ensures)
    (rw c.as_slice.ensures.value at c.in_ok-write_rows.ensures) (rw c.as_slice-2.ensures.value at c.in_ok-write_rows-2.ensures) c.flush.ensures
