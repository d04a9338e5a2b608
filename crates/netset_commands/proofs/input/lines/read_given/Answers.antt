use Rattle.std.proofs.Common.{false}
use Rattle.std.proofs.lemmas.Result.{err_from_is_err_and}
use Rattle.netset_commands.proofs.Causes.{file_cause}
use Rattle.netset_commands.proofs.Given.{begins_as, file_bytes, opens_begun, whole_cause}
use Rattle.netset_commands.proofs.LineKinds.{file_read, file_unread, no_lines}
use Rattle.netset_commands.specs.LineKinds.{IsUnreadBy}
use Rattle.netset_commands.proofs.input.lines.read_given.Goals as goal

pub returns-in_err-bytes-clause-cause : goal.returns-in_err-bytes-clause-cause
returns-in_err-bytes-clause-cause g c =
    let (y, is, same) = err_from_is_err_and c.from_residual-in_err-bytes.result c.from_residual-in_err-bytes.ensures.1 in
    rw (is, same) (whole_cause (g.F.Sources.contents c.args.sources.now) (g.F.Sources.reasons c.args.sources.now) c.args.file.now _ (g.M.Memory.refused c.read_whole.new.memory) c.in_err-bytes.field-0.0 c.in_ok-begun.ensures.opened
    (opens_begun _ (g.F.Sources.contents c.args.sources.now c.args.file.now) c.in_ok-begun.begun c.in_ok-begun.ensures.told) c.in_err-bytes.ensures.cause)

pub returns-then-is_stored-clause-gives : goal.returns-then-is_stored-clause-gives
returns-then-is_stored-clause-gives g c =
    file_bytes _ (g.F.Sources.contents c.args.sources.now c.args.file.now) c.in_ok-begun.begun c.in_ok-begun.ensures.told c.is_stored.result c.in_ok-bytes.bytes.items
    c.is_stored.ensures c.if-is_stored.true c.in_ok-bytes.ensures.bytes

pub returns-in-Ok-clause-gives : goal.returns-in-Ok-clause-gives
returns-in-Ok-clause-gives g c =
    file_read (λ form. g.K.LineKind.says c.args.kind.now form c.args.said.now) (g.K.LineKind.is_bad c.args.kind.now) (g.F.Sources.contents c.args.sources.now c.args.file.now)
    _ c.list_form.result (opens_begun _ (g.F.Sources.contents c.args.sources.now c.args.file.now) c.in_ok-begun.begun c.in_ok-begun.ensures.told)
    (c.list_form.ensures c.args.file.now) c.args.file.now c.read_source.new.said c.in-Ok.ensures.reads

pub returns-in-Err-clause-gives : goal.returns-in-Err-clause-gives
returns-in-Err-clause-gives g c =
    rw c.unread.ensures (no_lines (IsUnreadBy (λ form. g.K.LineKind.says c.args.kind.now form c.args.said.now) (g.K.LineKind.is_bad c.args.kind.now)
    (g.F.Sources.contents c.args.sources.now c.args.file.now) c.args.file.now) (g.F.Sources.contents c.args.sources.now c.args.file.now) c.args.file c.in-Err.e
    (begins_as _ (g.F.Sources.contents c.args.sources.now c.args.file.now) c.in_ok-begun.begun c.in_ok-begun.ensures.told c.is_stored.result c.is_stored.ensures false
    c.if-is_stored.false)
    (file_unread (λ form. g.K.LineKind.says c.args.kind.now form c.args.said.now) (g.K.LineKind.is_bad c.args.kind.now)
    (g.F.Sources.contents c.args.sources.now c.args.file.now) _ c.list_form.result
    (opens_begun _ (g.F.Sources.contents c.args.sources.now c.args.file.now) c.in_ok-begun.begun c.in_ok-begun.ensures.told) (c.list_form.ensures c.args.file.now)
    c.args.file c.read_source.new.said c.in-Err.e c.in-Err.ensures.reads))

pub returns-in-Err-clause-cause : goal.returns-in-Err-clause-cause
returns-in-Err-clause-cause g c =
    rw c.unread.ensures (file_cause (g.F.Sources.contents c.args.sources.now) (g.F.Sources.reasons c.args.sources.now) c.args.file _ (g.M.Memory.refused c.read_source.new.memory) c.in-Err.e c.in_ok-begun.ensures.opened
    (opens_begun _ (g.F.Sources.contents c.args.sources.now c.args.file.now) c.in_ok-begun.begun c.in_ok-begun.ensures.told) c.in-Err.ensures.cause)
