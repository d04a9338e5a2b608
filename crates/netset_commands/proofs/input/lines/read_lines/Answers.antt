use Rattle.std.proofs.lemmas.Result.{err_from_is_err_and}
use Rattle.netset_commands.specs.Causes.{TextFails}
use Rattle.netset_commands.proofs.Causes.{line_cause, no_line_cause, reading_stopped}
use Rattle.netset_commands.proofs.LineKinds.{line_failed, reading_ended}
use Rattle.netset_commands.proofs.LinesRead.{left_known, none_read, numbers_used, line_read, last_read, stops_at}
use Rattle.netset_commands.proofs.input.lines.read_lines.Goals as goal

pub loop-number-init : goal.loop-number-init
loop-number-init g c =
    none_read (g.K.LineKind.says c.args.kind.now c.args.list_form c.args.said.now) c.args.reader.now.left c.args.said.now
    (g.met.K.LineKind.none c.args.kind.now c.args.list_form c.args.said.now)

pub returns-in_err-has_more-clause-reads : goal.returns-in_err-has_more-clause-reads
returns-in_err-has_more-clause-reads g c =
    let (y, is, same) = err_from_is_err_and c.from_residual.result c.from_residual.ensures.1 in
    reading_ended (g.K.LineKind.says c.args.kind.now c.args.list_form c.args.said.now) (g.K.LineKind.is_bad c.args.kind.now c.args.list_form)
    c.args.reader.now.left c.loop-number.said _ _ _ is same (reading_stopped c.in_err-has_more.field-0.0)

pub returns-in_err-add_line-clause-reads : goal.returns-in_err-add_line-clause-reads
returns-in_err-add_line-clause-reads g c =
    let (y, is, same) = err_from_is_err_and c.from_residual-in_err-add_line.result c.from_residual-in_err-add_line.ensures.1 in
    line_failed (g.K.LineKind.says c.args.kind.now c.args.list_form c.args.said.now) (g.K.LineKind.is_bad c.args.kind.now c.args.list_form)
    c.args.reader.now.left c.loop-number.said c.add_line.new.said c.loop-number.number c.read_line.new.self.line _ _ _ is same
    (stops_at (g.K.LineKind.says c.args.kind.now c.args.list_form c.args.said.now) c.args.reader.now.left c.loop-number.reader.left
    c.read_line.new.self.left c.loop-number.said c.loop-number.number c.read_line.new.self.line c.in_ok-has_more.has_more
    c.loop-number.invariant c.in_ok-has_more.ensures.line)
    (rw c.line.ensures at c.in_err-add_line.ensures.adds)

pub returns-then-not-has_more-clause-reads : goal.returns-then-not-has_more-clause-reads
returns-then-not-has_more-clause-reads g c =
    last_read (g.K.LineKind.says c.args.kind.now c.args.list_form c.args.said.now) c.args.reader.now.left c.loop-number.reader.left
    c.read_line.new.self.left c.loop-number.said c.add_line.new.said c.loop-number.number c.read_line.new.self.line
    c.in_ok-has_more.has_more c.if-not-has_more.true c.loop-number.invariant c.in_ok-has_more.ensures.line
    ((rw c.line.ensures at c.in_ok-add_line.ensures.adds) c.args.said.now)

pub loop-number-preserved : goal.loop-number-preserved
loop-number-preserved g c =
    line_read (g.K.LineKind.says c.args.kind.now c.args.list_form c.args.said.now) c.args.reader.now.left c.loop-number.reader.left
    c.read_line.new.self.left c.loop-number.said c.add_line.new.said c.loop-number.number c.read_line.new.self.line
    c.in_ok-has_more.has_more c.if-not-has_more.false c.loop-number.invariant c.in_ok-has_more.ensures.line
    ((rw c.line.ensures at c.in_ok-add_line.ensures.adds) c.args.said.now)

pub returns-in_err-has_more-clause-cause : goal.returns-in_err-has_more-clause-cause
returns-in_err-has_more-clause-cause g c =
    let (y, is, same) = err_from_is_err_and c.from_residual.result c.from_residual.ensures.1 in
    rw (is, same) (no_line_cause c.args.reader.now.left c.loop-number.reader.left (g.M.Memory.refused c.read_line.new.memory) c.in_err-has_more.field-0.0
    (left_known (g.K.LineKind.says c.args.kind.now c.args.list_form c.args.said.now) c.args.reader.now.left c.loop-number.reader.left c.loop-number.said
    c.loop-number.number c.loop-number.invariant)
    c.in_err-has_more.ensures.failed c.in_err-has_more.ensures.refused)

pub returns-in_err-add_line-clause-cause : goal.returns-in_err-add_line-clause-cause
returns-in_err-add_line-clause-cause g c =
    let (y, is, same) = err_from_is_err_and c.from_residual-in_err-add_line.result c.from_residual-in_err-add_line.ensures.1 in
    rw (is, same) (line_cause (TextFails c.args.reader.now.left) (g.M.Memory.refused c.add_line.new.memory) c.in_err-add_line.field-0.0 c.in_err-add_line.ensures.cause)

pub returns-clause-cause : goal.returns-clause-cause
returns-clause-cause g c =
    numbers_used (g.K.LineKind.says c.args.kind.now c.args.list_form c.args.said.now) c.args.reader.now.left c.loop-number.reader.left c.loop-number.said
    c.loop-number.number c.loop-number.invariant c.loop-number-test.false
