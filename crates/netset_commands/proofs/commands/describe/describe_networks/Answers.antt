use Rattle.std.proofs.Common.{inl, refl}
use Rattle.std.proofs.lemmas.Result.{err_from_is_err_and}
use Rattle.netset_commands.specs.Causes.{FileFails}
use Rattle.netset_commands.proofs.Causes.{output_cause}
use Rattle.netset_commands.proofs.Described.{networks_told}
use Rattle.netset_commands.proofs.commands.describe.describe_networks.Goals as goal

pub returns-clause-describes : goal.returns-clause-describes
returns-clause-describes g c =
    networks_told (g.F.Sources.contents c.args.sources.now) c.args.what c.args.operand.now c.in_ok-sets.sets (g.O.Sink.state c.args.out.now)
    (g.O.Sink.state c.write_told.new.out) c.write_told.result c.by_output.result c.in_ok-sets.ensures.reads c.write_told.ensures c.by_output.ensures

pub returns-clause-cause : goal.returns-clause-cause
returns-clause-cause g c = output_cause (FileFails (g.F.Sources.contents c.args.sources.now) (g.F.Sources.reasons c.args.sources.now)) _ _ _ c.by_output.result c.by_output.ensures

pub returns-in_err-sets-clause-describes : goal.returns-in_err-sets-clause-describes
returns-in_err-sets-clause-describes g c =
    let (y, is, same) = err_from_is_err_and c.from_residual.result c.from_residual.ensures.1 in
    rw (is, same) (inl (refl, _, refl, c.in_err-sets.ensures.reads))
