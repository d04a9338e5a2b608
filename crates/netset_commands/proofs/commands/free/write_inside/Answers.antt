use Rattle.std.proofs.Common.{sym, option_map}
use Rattle.std.proofs.lemmas.Result.{err_from_is_err_and}
use Rattle.cidr_lists.specs.Formats.{style_in}
use Rattle.netset_commands.proofs.LaidOut.{inside_lost_first, inside_lost_then, inside_written}
use Rattle.netset_commands.proofs.commands.free.write_inside.Goals as goal

pub returns-in_err-left : goal.returns-in_err-left
returns-in_err-left g c =
    let (y, is, same) = err_from_is_err_and c.from_residual.result c.from_residual.ensures.1 in
    inside_lost_first (option_map (λ s. style_in s) c.args.style) c.args.most c.args.len c.args.v4.now c.args.v6.now (g.S.Sink.state c.args.out.now)
    (g.S.Sink.state c.push_layout.new.out) c.new-block.result c.push_layout.new.block c.from_residual.result y is (sym c.if-failed.ensures) c.new-block.ensures
    (rw c.walk_layout-ipv4.ensures at c.in_err-left.ensures)

pub returns-in_err-push_layout : goal.returns-in_err-push_layout
returns-in_err-push_layout g c =
    let (y, is, same) = err_from_is_err_and c.from_residual-in_err-push_layout.result c.from_residual-in_err-push_layout.ensures.1 in
    inside_lost_then (option_map (λ s. style_in s) c.args.style) c.args.most c.args.len c.args.v4.now c.args.v6.now c.in_ok-left.left (g.S.Sink.state c.args.out.now)
    (g.S.Sink.state c.push_layout.new.out) (g.S.Sink.state c.push_layout-2.new.out) c.new-block.result c.push_layout.new.block c.push_layout-2.new.block
    c.from_residual-in_err-push_layout.result (sym c.if-failed.ensures) c.new-block.ensures (rw c.walk_layout-ipv4.ensures at c.in_ok-left.ensures) y is
    (rw c.walk_layout-ipv6.ensures at c.in_err-push_layout.ensures)

pub returns : goal.returns
returns g c =
    inside_written (option_map (λ s. style_in s) c.args.style) c.args.most c.args.len c.args.v4.now c.args.v6.now c.in_ok-left.left (g.S.Sink.state c.args.out.now)
    (g.S.Sink.state c.push_layout.new.out) (g.S.Sink.state c.push_layout-2.new.out) c.new-block.result c.push_layout.new.block c.push_layout-2.new.block
    c.flush.result (sym c.if-failed.ensures) c.new-block.ensures (rw c.walk_layout-ipv4.ensures at c.in_ok-left.ensures) (g.S.Sink.state c.flush.new.out) _
    (rw c.walk_layout-ipv6.ensures at c.in_ok-push_layout.ensures) c.flush.ensures.writes
