use Rattle.std.proofs.lemmas.Result.{err_from_is_err_and}
use Rattle.netset_commands.proofs.AccessLists.{no_rules_read, rules_told, rules_untold}
use Rattle.netset_commands.proofs.Given.{opens_begun, whole_cause}
use Rattle.netset_commands.proofs.commands.acl.read_rules.Goals as goal

pub returns-in_err-begun-clause-reads : goal.returns-in_err-begun-clause-reads
returns-in_err-begun-clause-reads g c =
    let (y, is, same) = err_from_is_err_and c.from_residual.result c.from_residual.ensures.1 in
    rw (is, same) (no_rules_read (g.F.Sources.contents c.args.sources.now c.args.file.now) c.args.file.now c.in_err-begun.field-0.0 c.in_err-begun.ensures.stopped)

pub returns-in_err-bytes-clause-reads : goal.returns-in_err-bytes-clause-reads
returns-in_err-bytes-clause-reads g c =
    let (y, is, same) = err_from_is_err_and c.from_residual-in_err-bytes.result c.from_residual-in_err-bytes.ensures.1 in
    rw (is, same) (no_rules_read (g.F.Sources.contents c.args.sources.now c.args.file.now) c.args.file.now c.in_err-bytes.field-0.0 c.in_err-bytes.ensures.stopped)

pub returns-in_err-bytes-clause-cause : goal.returns-in_err-bytes-clause-cause
returns-in_err-bytes-clause-cause g c =
    let (y, is, same) = err_from_is_err_and c.from_residual-in_err-bytes.result c.from_residual-in_err-bytes.ensures.1 in
    rw (is, same) (whole_cause (g.F.Sources.contents c.args.sources.now) (g.F.Sources.reasons c.args.sources.now) c.args.file.now _ (g.M.Memory.refused c.read_whole.new.memory) c.in_err-bytes.field-0.0 c.in_ok-begun.ensures.opened
    (opens_begun _ (g.F.Sources.contents c.args.sources.now c.args.file.now) c.in_ok-begun.begun c.in_ok-begun.ensures.told) c.in_err-bytes.ensures.cause)

pub returns-in-Ok-clause-reads : goal.returns-in-Ok-clause-reads
returns-in-Ok-clause-reads g c =
    rules_told (g.F.Sources.contents c.args.sources.now c.args.file.now) _ c.in_ok-bytes.bytes.items c.list_form.result
    (opens_begun _ (g.F.Sources.contents c.args.sources.now c.args.file.now) c.in_ok-begun.begun c.in_ok-begun.ensures.told) c.in_ok-bytes.ensures.bytes
    (c.list_form.ensures c.args.file.now) c.in-Ok.rules (rw (c.as_slice.ensures.value, c.host_bits.ensures) at c.in-Ok.ensures)

pub returns-clause-reads : goal.returns-clause-reads
returns-clause-reads g c =
    rw c.unread.ensures.result (rules_untold (g.F.Sources.contents c.args.sources.now c.args.file.now) _ c.in_ok-bytes.bytes.items c.list_form.result
    (opens_begun _ (g.F.Sources.contents c.args.sources.now c.args.file.now) c.in_ok-begun.begun c.in_ok-begun.ensures.told) c.in_ok-bytes.ensures.bytes
    (c.list_form.ensures c.args.file.now) c.args.file c.in-Err.e (rw (c.as_slice.ensures.value, c.host_bits.ensures) at c.in-Err.ensures))
