use Rattle.std.proofs.Common.{◌∙◌, sym, false}
use Rattle.std.proofs.lemmas.Bool.{true≢false}
use Rattle.std.proofs.lemmas.Result.{err_from_is_err_and}
use Rattle.netset_commands.specs.declared.errors.CommandError.TheVariants as error
use Rattle.netset_commands.proofs.Causes.{file_cause}
use Rattle.netset_commands.proofs.Given.{begins_as, file_bytes, opens_begun, whole_cause}
use Rattle.netset_commands.proofs.Telling.{file_kept, list_cut, list_kept, not_begun, nothing_kept}
use Rattle.netset_commands.proofs.input.keeping.keep_list.Goals as goal
use Rattle.netset_commands.proofs.input.keeping.keep_list.Goals.{else-takes_file-via-then-takes_file+else-is_stored, else-takes_file-via-else-takes_file}

pub returns-in_err-begun-clause-keeps : goal.returns-in_err-begun-clause-keeps
returns-in_err-begun-clause-keeps g c =
    let (y, is, same) = err_from_is_err_and c.from_residual.result c.from_residual.ensures.1 in
    rw (is, same) (nothing_kept c.args.takes_file (g.F.Sources.contents c.args.sources.now c.args.file.now) c.args.kind c.args.file.now c.args.skips
    (g.E.Sink.state c.args.err.now) c.in_err-begun.field-0.0 (not_begun c.args.file.now c.in_err-begun.field-0.0 c.in_err-begun.ensures.stopped))

pub returns-in_err-bytes-clause-keeps : goal.returns-in_err-bytes-clause-keeps
returns-in_err-bytes-clause-keeps g c =
    let (y, is, same) = err_from_is_err_and c.from_residual-in_err-bytes.result c.from_residual-in_err-bytes.ensures.1 in
    rw (is, same) (nothing_kept c.args.takes_file (g.F.Sources.contents c.args.sources.now c.args.file.now) c.args.kind c.args.file.now c.args.skips
    (g.E.Sink.state c.args.err.now) c.in_err-bytes.field-0.0 (not_begun c.args.file.now c.in_err-bytes.field-0.0 c.in_err-bytes.ensures.stopped))

pub returns-in_err-bytes-clause-cause : goal.returns-in_err-bytes-clause-cause
returns-in_err-bytes-clause-cause g c =
    let (y, is, same) = err_from_is_err_and c.from_residual-in_err-bytes.result c.from_residual-in_err-bytes.ensures.1 in
    rw (is, same) (whole_cause (g.F.Sources.contents c.args.sources.now) (g.F.Sources.reasons c.args.sources.now) c.args.file.now _ (g.M.Memory.refused c.read_whole.new.memory) c.in_err-bytes.field-0.0 c.in_ok-begun.ensures.opened
    (opens_begun _ (g.F.Sources.contents c.args.sources.now c.args.file.now) c.in_ok-begun.begun c.in_ok-begun.ensures.told) c.in_err-bytes.ensures.cause)

pub returns-in_default-clause-keeps : goal.returns-in_default-clause-keeps
returns-in_default-clause-keeps g c =
    nothing_kept c.args.takes_file (g.F.Sources.contents c.args.sources.now c.args.file.now) c.args.kind c.args.file.now c.args.skips (g.E.Sink.state c.args.err.now) error.NoMemory tt

pub returns-then-is_stored-clause-keeps : goal.returns-then-is_stored-clause-keeps
returns-then-is_stored-clause-keeps g c =
    rw c.if-takes_file.true (file_kept (g.F.Sources.contents c.args.sources.now c.args.file.now) c.args.kind c.args.file c.args.skips (g.E.Sink.state c.args.err.now) c.in_ok-bytes.bytes c.new.result
    (file_bytes _ (g.F.Sources.contents c.args.sources.now c.args.file.now) c.in_ok-begun.begun c.in_ok-begun.ensures.told c.is_stored.result c.in_ok-bytes.bytes.items c.is_stored.ensures c.if-is_stored.true c.in_ok-bytes.ensures.bytes))

pub returns-in-Ok-kept-clause-keeps : goal.returns-in-Ok-kept-clause-keeps
returns-in-Ok-kept-clause-keeps g c =
    list_kept c.args.takes_file (g.F.Sources.contents c.args.sources.now c.args.file.now) c.in-Ok.reader.left c.args.kind c.list_form.result c.args.skips (g.E.Sink.state c.args.err.now)
    (g.E.Sink.state c.keep_lines-kept.new.err) (g.E.Sink.state c.end.new.out) c.new-block.result c.keep_lines-kept.new.block
    (λ text at takes. elim c.else-takes_file.branch [
      | else-takes_file-via-then-takes_file+else-is_stored w ↦ begins_as _ (g.F.Sources.contents c.args.sources.now c.args.file.now) c.in_ok-begun.begun c.in_ok-begun.ensures.told w.is_stored.result w.is_stored.ensures false w.if-is_stored.false text at
      | else-takes_file-via-else-takes_file w ↦ absurd (true≢false (sym takes ∙ w.if-takes_file.false))
    ])
    (λ text at. c.in-Ok.ensures.left ∙ opens_begun _ (g.F.Sources.contents c.args.sources.now c.args.file.now) c.in_ok-begun.begun c.in_ok-begun.ensures.told text at) (c.list_form.ensures c.args.file.now) c.new-block.ensures c.end.ensures
    c.args.file c.in-Ok-kept.heard c.in-Ok-kept.ensures.keeps

pub returns-clause-keeps : goal.returns-clause-keeps
returns-clause-keeps g c =
    rw c.unread.ensures (list_cut c.args.takes_file (g.F.Sources.contents c.args.sources.now c.args.file.now) c.in-Ok.reader.left c.args.kind c.list_form.result c.args.skips (g.E.Sink.state c.args.err.now)
    (g.E.Sink.state c.keep_lines-kept.new.err) (g.E.Sink.state c.end.new.out) c.new-block.result c.keep_lines-kept.new.block
    (λ text at takes. elim c.else-takes_file.branch [
      | else-takes_file-via-then-takes_file+else-is_stored w ↦ begins_as _ (g.F.Sources.contents c.args.sources.now c.args.file.now) c.in_ok-begun.begun c.in_ok-begun.ensures.told w.is_stored.result w.is_stored.ensures false w.if-is_stored.false text at
      | else-takes_file-via-else-takes_file w ↦ absurd (true≢false (sym takes ∙ w.if-takes_file.false))
    ])
    (λ text at. c.in-Ok.ensures.left ∙ opens_begun _ (g.F.Sources.contents c.args.sources.now c.args.file.now) c.in_ok-begun.begun c.in_ok-begun.ensures.told text at) (c.list_form.ensures c.args.file.now) c.new-block.ensures c.end.ensures
    c.args.file c.in-Err.e c.in-Err.ensures.keeps)

pub returns-clause-cause : goal.returns-clause-cause
returns-clause-cause g c =
    rw c.unread.ensures (file_cause (g.F.Sources.contents c.args.sources.now) (g.F.Sources.reasons c.args.sources.now) c.args.file c.in-Ok.reader.left (g.M.Memory.refused c.keep_lines-kept.new.memory) c.in-Err.e c.in_ok-begun.ensures.opened
    (λ text at. c.in-Ok.ensures.left ∙ opens_begun _ (g.F.Sources.contents c.args.sources.now c.args.file.now) c.in_ok-begun.begun c.in_ok-begun.ensures.told text at) c.in-Err.ensures.cause)
