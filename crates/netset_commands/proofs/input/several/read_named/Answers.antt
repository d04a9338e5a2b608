use Rattle.std.proofs.Common.{map}
use Rattle.std.proofs.lemmas.Result.{err_from_is_err_and}
use Rattle.netset_commands.proofs.EachFile.{first_read, first_not_read, others_not_read}
use Rattle.netset_commands.proofs.input.several.read_named.Goals as goal

pub returns-in_err-first-clause-reads : goal.returns-in_err-first-clause-reads
returns-in_err-first-clause-reads g c =
    let (y, is, same) = err_from_is_err_and c.from_residual.result c.from_residual.ensures.1 in
    rw (is, same) (first_not_read (g.F.Sources.contents c.args.sources.now) c.args.file.now (map (λ file. file.now) c.args.files.now) _ c.in_err-first.ensures.reads)

pub returns-in_err-others-clause-reads : goal.returns-in_err-others-clause-reads
returns-in_err-others-clause-reads g c =
    let (y, is, same) = err_from_is_err_and c.from_residual-in_err-others.result c.from_residual-in_err-others.ensures.1 in
    rw (is, same) (others_not_read (g.F.Sources.contents c.args.sources.now) c.args.file.now (map (λ file. file.now) c.args.files.now) _ _
    c.in_ok-first.ensures.reads c.in_err-others.ensures.reads)

pub returns-clause-reads : goal.returns-clause-reads
returns-clause-reads g c =
    first_read (g.F.Sources.contents c.args.sources.now) c.args.file.now (map (λ file. file.now) c.args.files.now) c.in_ok-first.first c.in_ok-others.others.items
    c.in_ok-first.ensures.reads c.in_ok-others.ensures.reads
