use Rattle.std.proofs.Common.{sym}
use Rattle.std.proofs.lemmas.Result.{err_from_is_err_and}
use Rattle.netset_commands.proofs.Blocks.{first_failed, second_failed, both_written}
use Rattle.netset_commands.proofs.commands.changes.write_both.Goals as goal

pub returns-in_err-write_changes : goal.returns-in_err-write_changes
returns-in_err-write_changes g c =
    let (y, is, same) = err_from_is_err_and c.from_residual.result c.from_residual.ensures.1 in
    first_failed (g.S.Sink.state c.args.out.now) (g.S.Sink.state c.write_changes.new.out) _ _ c.from_residual.result y is (sym c.if-failed.ensures)
    (rw (c.change_layout-ipv4.ensures, c.as_slice.ensures.networks, c.as_slice-2.ensures.networks) at c.in_err-write_changes.ensures)

pub returns-in_err-write_changes-2 : goal.returns-in_err-write_changes-2
returns-in_err-write_changes-2 g c =
    let (y, is, same) = err_from_is_err_and c.from_residual-in_err-write_changes-2.result c.from_residual-in_err-write_changes-2.ensures.1 in
    second_failed (g.S.Sink.state c.args.out.now) (g.S.Sink.state c.write_changes.new.out) (g.S.Sink.state c.write_changes-2.new.out) _ _
    c.from_residual-in_err-write_changes-2.result y is (sym c.if-failed.ensures)
    (rw (c.change_layout-ipv4.ensures, c.as_slice.ensures.networks, c.as_slice-2.ensures.networks) at c.in_ok-write_changes.ensures)
    (rw (c.change_layout-ipv6.ensures, c.as_slice-3.ensures.networks, c.as_slice-4.ensures.networks) at c.in_err-write_changes-2.ensures)

pub returns : goal.returns
returns g c =
    both_written (g.S.Sink.state c.args.out.now) (g.S.Sink.state c.write_changes.new.out) (g.S.Sink.state c.write_changes-2.new.out) (g.S.Sink.state c.flush.new.out) _ _
    c.flush.result (sym c.if-failed.ensures)
    (rw (c.change_layout-ipv4.ensures, c.as_slice.ensures.networks, c.as_slice-2.ensures.networks) at c.in_ok-write_changes.ensures)
    (rw (c.change_layout-ipv6.ensures, c.as_slice-3.ensures.networks, c.as_slice-4.ensures.networks) at c.in_ok-write_changes-2.ensures) c.flush.ensures
