use Rattle.std.proofs.Common.{sym}
use Rattle.std.proofs.lemmas.Result.{err_from_is_err_and}
use Rattle.netset_commands.proofs.AccessLists.{permitted_read}
use Rattle.netset_commands.proofs.commands.acl.read_permitted.Goals as goal

pub returns-in_err-rules-clause-reads : goal.returns-in_err-rules-clause-reads
returns-in_err-rules-clause-reads g c =
    let (y, is, same) = err_from_is_err_and c.from_residual.result c.from_residual.ensures.1 in
    rw (is, same) c.in_err-rules.ensures.reads

pub returns-clause-reads : goal.returns-clause-reads
returns-clause-reads g c =
    permitted_read (g.F.Sources.contents c.args.sources.now c.args.file.now) c.args.file.now c.in_ok-rules.rules c.in_ok-sets.sets c.in_ok-rules.ensures.reads
    (rw (sym c.in_ok-sets.ensures.made) at c.permitted-sets.ensures)
