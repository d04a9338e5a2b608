use Rattle.std.proofs.Common.{refl, sym}
use Rattle.std.proofs.lemmas.Result.{err_from_is_err_and}
use Rattle.netset_commands.proofs.Kept.{lost_object, told_object}
use Rattle.netset_commands.proofs.commands.kept.tell_address.Goals as goal

pub returns-in_err-object-clause-tells : goal.returns-in_err-object-clause-tells
returns-in_err-object-clause-tells g c =
    let (y, is, same) = err_from_is_err_and c.from_residual.result c.from_residual.ensures.1 in
    rw (is, same) (refl, refl)

pub returns-in-Ok-clause-tells : goal.returns-in-Ok-clause-tells
returns-in-Ok-clause-tells g c =
    told_object (g.T.LookUps.rows c.args.table.now) c.args.address.now c.in_ok-object.object.0.items c.as_slice.result.now (g.S.Sink.state c.args.out.now) (g.S.Sink.state c.push.new.out)
    c.args.block.now c.push.new.self c.in_ok-object.object.1 (rw (sym c.in_ok-object.ensures.made) at c.object_of-made.ensures) c.as_slice.ensures.value c.in-Ok.ensures

pub returns-clause-tells : goal.returns-clause-tells
returns-clause-tells g c =
    lost_object (g.T.LookUps.rows c.args.table.now) c.args.address.now c.in_ok-object.object.0.items c.as_slice.result.now (g.S.Sink.state c.args.out.now) (g.S.Sink.state c.push.new.out)
    c.args.block.now c.push.new.self c.in_ok-object.object.1 (rw (sym c.in_ok-object.ensures.made) at c.object_of-made.ensures) c.as_slice.ensures.value c.in-Err.ensures
