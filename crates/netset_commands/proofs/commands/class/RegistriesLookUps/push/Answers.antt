use Rattle.std.proofs.lemmas.Result.{err_from_is_err_and}
use Rattle.netset_commands.proofs.Classed.{class_lost, class_pushed}
use Rattle.netset_commands.proofs.commands.class.RegistriesLookUps.push.Goals as goal

pub returns : goal.returns
returns g c =
    class_pushed c.args.address.now c.class_line-line.result.0.bytes c.class_line-line.result.1 (g.S.Sink.state c.args.out.now) (g.S.Sink.state c.push.new.out)
    c.args.block.now c.push.new.self c.class_line-line.ensures (rw (c.as_bytes.ensures.value, c.as_str.ensures.value) at c.in_ok-push.ensures)

pub returns-in_err-push : goal.returns-in_err-push
returns-in_err-push g c =
    let (y, is, same) = err_from_is_err_and c.from_residual.result c.from_residual.ensures.1 in
    class_lost c.args.address.now c.class_line-line.result.0.bytes c.class_line-line.result.1 (g.S.Sink.state c.args.out.now) (g.S.Sink.state c.push.new.out)
    c.args.block.now c.push.new.self y _ c.from_residual.result is same c.class_line-line.ensures (rw (c.as_bytes.ensures.value, c.as_str.ensures.value) at c.in_err-push.ensures)
