use Rattle.netset_commands.proofs.Causes.{file_cause, not_opened}
use Rattle.netset_commands.proofs.LineKinds.{file_read, file_unread}
use Rattle.netset_commands.proofs.input.lines.read_file_lines.Goals as goal

pub returns-in-Err-clause-cause : goal.returns-in-Err-clause-cause
returns-in-Err-clause-cause g c = not_opened (g.F.Sources.contents c.args.sources.now) (g.F.Sources.reasons c.args.sources.now) c.args.file.now c.in-Err.why c.in-Err.ensures.none c.in-Err.ensures.why

pub returns-in-Ok-read_source-clause-reads : goal.returns-in-Ok-read_source-clause-reads
returns-in-Ok-read_source-clause-reads g c =
    file_read (λ form. g.K.LineKind.says c.args.kind.now form c.args.said.now) (g.K.LineKind.is_bad c.args.kind.now) (g.F.Sources.contents c.args.sources.now c.args.file.now)
    _ c.list_form.result c.in-Ok.ensures.left (c.list_form.ensures c.args.file.now) c.args.file.now c.read_source.new.said c.in-Ok-read_source.ensures.reads

pub returns-in-Err-read_source-clause-reads : goal.returns-in-Err-read_source-clause-reads
returns-in-Err-read_source-clause-reads g c =
    rw c.unread.ensures (file_unread (λ form. g.K.LineKind.says c.args.kind.now form c.args.said.now) (g.K.LineKind.is_bad c.args.kind.now)
    (g.F.Sources.contents c.args.sources.now c.args.file.now) _ c.list_form.result c.in-Ok.ensures.left (c.list_form.ensures c.args.file.now) c.args.file
    c.read_source.new.said c.in-Err-read_source.e c.in-Err-read_source.ensures.reads)

pub returns-in-Err-read_source-clause-cause : goal.returns-in-Err-read_source-clause-cause
returns-in-Err-read_source-clause-cause g c =
    rw c.unread.ensures (file_cause (g.F.Sources.contents c.args.sources.now) (g.F.Sources.reasons c.args.sources.now) c.args.file _ (g.M.Memory.refused c.read_source.new.memory) c.in-Err-read_source.e
    c.in-Ok.ensures.opened c.in-Ok.ensures.left c.in-Err-read_source.ensures.cause)
