use Rattle.std.proofs.lemmas.Result.{err_from_is_err_and}
use Rattle.netset_commands.proofs.EachFile.{file_read_at, file_not_read_at, all_read_at}
use Rattle.netset_commands.proofs.input.several.read_all.Goals as goal

pub returns-in_err-set-clause-reads : goal.returns-in_err-set-clause-reads
returns-in_err-set-clause-reads g c =
    let (y, is, same) = err_from_is_err_and c.from_residual.result c.from_residual.ensures.1 in
    rw (is, same) (file_not_read_at (g.F.Sources.contents c.args.sources.now) c.args.files.now c.loop-file.file-index _ c.loop-file.sets.items _
    c.loop-file-test.true c.loop-file.invariant c.in_err-set.ensures.reads)

pub loop-file-preserved : goal.loop-file-preserved
loop-file-preserved g c =
    rw c.in_ok-push.ensures.pushed (file_read_at (g.F.Sources.contents c.args.sources.now) c.args.files.now c.loop-file.file-index _ c.loop-file.sets.items _
    c.loop-file-test.true c.loop-file.invariant c.in_ok-set.ensures.reads)

pub returns-clause-reads : goal.returns-clause-reads
returns-clause-reads g c =
    all_read_at (g.F.Sources.contents c.args.sources.now) c.args.files.now c.loop-file.file-index c.loop-file.sets.items c.loop-file-test.false c.loop-file.invariant
