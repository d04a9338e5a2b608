use Rattle.std.proofs.lemmas.Result.{err_from_is_err_and}
use Rattle.cidr_io.proofs.Collected.{collected_more}
use Rattle.netset_commands.proofs.Differing.{lost_first}
use Rattle.netset_commands.proofs.commands.same.push_differences.Goals as goal

pub returns : goal.returns
returns g c =
    collected_more (g.S.Sink.state c.args.out.now) (g.S.Sink.state c.push_number.new.out) (g.S.Sink.state c.push_number-2.new.out) c.args.block.now
    c.push_number.new.block c.push_number-2.new.block _ _ c.push_number-2.result
    (rw c.to_text-text.ensures.text at c.in_ok-push_number.ensures)
    (rw c.to_text-text.ensures.text at c.push_number-2.ensures)

pub returns-in_err-push_number : goal.returns-in_err-push_number
returns-in_err-push_number g c =
    let (y, is, same) = err_from_is_err_and c.from_residual.result c.from_residual.ensures.1 in
    lost_first (g.S.Sink.state c.args.out.now) (g.S.Sink.state c.push_number.new.out) c.args.block.now c.push_number.new.block _ _ c.from_residual.result y is
    (rw c.to_text-text.ensures.text at c.in_err-push_number.ensures)
