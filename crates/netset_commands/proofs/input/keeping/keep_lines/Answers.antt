use Rattle.std.proofs.Common.{refl}
use Rattle.std.proofs.lemmas.Result.{err_from_is_err_and}
use Rattle.netset_commands.specs.Causes.{TextFails}
use Rattle.netset_commands.specs.Keeping.{IsKept}
use Rattle.netset_commands.specs.Reading.{read_error}
use Rattle.netset_commands.specs.declared.errors.ListReadError.TheVariants.{Input, NoMemory}
use Rattle.netset_commands.proofs.Causes.{line_cause, no_line_cause, reading_stopped}
use Rattle.netset_commands.proofs.LinesRead.{left_known, numbers_used}
use Rattle.netset_commands.proofs.Telling.{keeping_done, keeping_more, keeping_started, keeping_stopped}
use Rattle.netset_commands.proofs.input.keeping.keep_lines.Goals as goal

pub loop-number-init : goal.loop-number-init
loop-number-init g c = keeping_started c.args.kind c.args.list_form c.args.file.now c.args.skips (g.E.Sink.state c.args.err.now) c.args.block.now c.args.reader.now.left c.new-said.result c.new-text.result.items
    c.new-said.ensures c.new-text.ensures.items

pub returns-in_err-has_more-clause-keeps : goal.returns-in_err-has_more-clause-keeps
returns-in_err-has_more-clause-keeps g c =
    let (y, is, same) = err_from_is_err_and c.from_residual.result c.from_residual.ensures.1 in
    rw (is, same) (keeping_stopped c.args.kind c.args.list_form c.args.file.now c.args.skips (g.E.Sink.state c.args.err.now) c.args.block.now c.args.reader.now.left c.loop-number.reader.left
    (g.E.Sink.state c.loop-number.err) (g.E.Sink.state c.loop-number.err) c.loop-number.block c.loop-number.block c.loop-number.found c.loop-number.said c.loop-number.text.items c.loop-number.number
    (read_error c.in_err-has_more.field-0.0) c.loop-number.invariant (reading_stopped c.in_err-has_more.field-0.0) refl refl)

pub returns-in_err-has_more-clause-cause : goal.returns-in_err-has_more-clause-cause
returns-in_err-has_more-clause-cause g c =
    let (y, is, same) = err_from_is_err_and c.from_residual.result c.from_residual.ensures.1 in
    rw (is, same) (no_line_cause c.args.reader.now.left c.loop-number.reader.left (g.M.Memory.refused c.read_line.new.memory) c.in_err-has_more.field-0.0
    (left_known (IsKept c.args.kind c.args.list_form c.args.file.now c.args.skips) c.args.reader.now.left c.loop-number.reader.left
    (c.loop-number.invariant.0, c.loop-number.found, c.loop-number.said, c.loop-number.text.items) c.loop-number.number c.loop-number.invariant.4)
    c.in_err-has_more.ensures.failed c.in_err-has_more.ensures.refused)

pub returns-in_err-len-clause-keeps : goal.returns-in_err-len-clause-keeps
returns-in_err-len-clause-keeps g c =
    let (y, is, same) = err_from_is_err_and c.from_residual-in_err-len.result c.from_residual-in_err-len.ensures.1 in
    rw (is, same) (keeping_stopped c.args.kind c.args.list_form c.args.file.now c.args.skips (g.E.Sink.state c.args.err.now) c.args.block.now c.args.reader.now.left c.loop-number.reader.left
    (g.E.Sink.state c.loop-number.err) (g.E.Sink.state c.loop-number.err) c.loop-number.block c.loop-number.block c.loop-number.found c.loop-number.said c.loop-number.text.items c.loop-number.number
    NoMemory c.loop-number.invariant tt refl refl)

pub returns-in_err-is_bad-clause-keeps : goal.returns-in_err-is_bad-clause-keeps
returns-in_err-is_bad-clause-keeps g c =
    let (y, is, same) = err_from_is_err_and c.from_residual-in_err-is_bad.result c.from_residual-in_err-is_bad.ensures.1 in
    rw (is, same) (keeping_stopped c.args.kind c.args.list_form c.args.file.now c.args.skips (g.E.Sink.state c.args.err.now) c.args.block.now c.args.reader.now.left c.loop-number.reader.left
    (g.E.Sink.state c.loop-number.err) (g.E.Sink.state c.keep_line.new.err) c.loop-number.block c.keep_line.new.block c.loop-number.found c.loop-number.said c.loop-number.text.items c.loop-number.number
    c.in_err-is_bad.field-0.0 c.loop-number.invariant c.in_err-is_bad.ensures.keeps.0 c.in_err-is_bad.ensures.keeps.1 c.in_err-is_bad.ensures.keeps.2)

pub returns-in_err-is_bad-clause-cause : goal.returns-in_err-is_bad-clause-cause
returns-in_err-is_bad-clause-cause g c =
    let (y, is, same) = err_from_is_err_and c.from_residual-in_err-is_bad.result c.from_residual-in_err-is_bad.ensures.1 in
    rw (is, same) (line_cause (TextFails c.args.reader.now.left) (g.M.Memory.refused c.keep_line.new.memory) c.in_err-is_bad.field-0.0 c.in_err-is_bad.ensures.cause)

pub returns-then-not-has_more-clause-keeps : goal.returns-then-not-has_more-clause-keeps
returns-then-not-has_more-clause-keeps g c =
    keeping_done c.args.kind c.args.list_form c.args.file.now c.args.skips (g.E.Sink.state c.args.err.now) c.args.block.now c.args.reader.now.left c.loop-number.reader.left c.read_line.new.self.left
    (g.E.Sink.state c.loop-number.err) (g.E.Sink.state c.keep_line.new.err) c.loop-number.block c.keep_line.new.block c.loop-number.found c.in_ok-is_bad.is_bad
    c.loop-number.said c.keep_line.new.said c.loop-number.number c.read_line.new.self.line c.line-line.result.now
    c.loop-number.text.items c.begin_line.new.text.items c.end_line.new.text.items c.in_ok-len.len c.in_ok-has_more.has_more
    c.loop-number.invariant c.in_ok-has_more.ensures.line c.line-line.ensures c.in_ok-is_bad.ensures.keeps
    c.in_ok-len.ensures.added (c.end_line.ensures.bad, c.end_line.ensures.good) c.end_line.new.text refl c.if-not-has_more.true

pub loop-number-preserved : goal.loop-number-preserved
loop-number-preserved g c =
    keeping_more c.args.kind c.args.list_form c.args.file.now c.args.skips (g.E.Sink.state c.args.err.now) c.args.block.now c.args.reader.now.left c.loop-number.reader.left c.read_line.new.self.left
    (g.E.Sink.state c.loop-number.err) (g.E.Sink.state c.keep_line.new.err) c.loop-number.block c.keep_line.new.block c.loop-number.found c.in_ok-is_bad.is_bad
    c.loop-number.said c.keep_line.new.said c.loop-number.number c.read_line.new.self.line c.line-line.result.now
    c.loop-number.text.items c.begin_line.new.text.items c.end_line.new.text.items c.in_ok-len.len c.in_ok-has_more.has_more
    c.loop-number.invariant c.in_ok-has_more.ensures.line c.line-line.ensures c.in_ok-is_bad.ensures.keeps
    c.in_ok-len.ensures.added (c.end_line.ensures.bad, c.end_line.ensures.good) c.if-not-has_more.false

pub returns-clause-keeps : goal.returns-clause-keeps
returns-clause-keeps g c =
    keeping_stopped c.args.kind c.args.list_form c.args.file.now c.args.skips (g.E.Sink.state c.args.err.now) c.args.block.now c.args.reader.now.left c.loop-number.reader.left
    (g.E.Sink.state c.loop-number.err) (g.E.Sink.state c.loop-number.err) c.loop-number.block c.loop-number.block c.loop-number.found c.loop-number.said c.loop-number.text.items c.loop-number.number
    Input c.loop-number.invariant tt refl refl

pub returns-clause-cause : goal.returns-clause-cause
returns-clause-cause g c =
    numbers_used (IsKept c.args.kind c.args.list_form c.args.file.now c.args.skips) c.args.reader.now.left c.loop-number.reader.left
    (c.loop-number.invariant.0, c.loop-number.found, c.loop-number.said, c.loop-number.text.items) c.loop-number.number c.loop-number.invariant.4 c.loop-number-test.false
