use Rattle.std.proofs.Common.{◌∙◌, ap, inl, inr}
use Rattle.std.proofs.lemmas.Result.{err_from_is_err_and}
use Rattle.std.specs.List.{AllZip}
use Rattle.cidr_lists.specs.LookUps.{LineLooks}
use Rattle.netset_commands.proofs.Causes.{lines_cause}
use Rattle.netset_commands.proofs.LinesRead.{left_known, numbers_used}
use Rattle.netset_commands.proofs.Looked.{caught_up, either_of, failing, looked_at_all, looked_on, looking_ended, looking_lost, looking_started, looking_unwritten}
use Rattle.netset_commands.proofs.commands.look.look_lines.Goals as goal
use Rattle.netset_commands.proofs.commands.look.look_lines.Goals.{then-found, else-found}

pub loop-number-init : goal.loop-number-init
loop-number-init g c = looking_started c.args.place (g.T.LookUps.rows c.args.table.now) c.args.reader.now.left (g.S.Sink.state c.args.out.now) c.args.block.now

pub returns-in_err-catch_up-clause-looks : goal.returns-in_err-catch_up-clause-looks
returns-in_err-catch_up-clause-looks g c =
    let (y, is, same) = err_from_is_err_and c.from_residual.result c.from_residual.ensures.1 in
    looking_unwritten c.args.place (g.T.LookUps.rows c.args.table.now) c.args.reader.now.left c.loop-number.reader.left (g.S.Sink.state c.args.out.now)
    (g.S.Sink.state c.loop-number.out) (g.S.Sink.state c.catch_up.new.out) c.args.block.now c.loop-number.block c.catch_up.new.block c.loop-number.found
    c.loop-number.number _ (is ∙ ap failing same) c.loop-number.invariant c.in_err-catch_up.ensures

pub returns-in_err-hit-clause-looks : goal.returns-in_err-hit-clause-looks
returns-in_err-hit-clause-looks g c =
    let (y, is, same) = err_from_is_err_and c.from_residual-in_err-hit.result c.from_residual-in_err-hit.ensures.1 in
    looking_lost c.args.place (g.T.LookUps.rows c.args.table.now) c.args.reader.now.left c.loop-number.reader.left c.read_group-read.new.reader.left
    (g.S.Sink.state c.args.out.now) (g.S.Sink.state c.catch_up.new.out) (g.S.Sink.state c.look_each.new.out) c.args.block.now c.catch_up.new.block c.look_each.new.block
    c.loop-number.found c.loop-number.number c.read_group-read.new.asked.items c.read_group-read.result
    c.in_err-hit.field-0.0 _ (is ∙ ap failing same)
    (caught_up c.args.place (g.T.LookUps.rows c.args.table.now) c.args.reader.now.left c.loop-number.reader.left (g.S.Sink.state c.args.out.now)
    (g.S.Sink.state c.loop-number.out) (g.S.Sink.state c.catch_up.new.out) c.args.block.now c.loop-number.block c.catch_up.new.block c.loop-number.found
    c.loop-number.number c.loop-number.invariant c.in_ok-catch_up.ensures)
    c.read_group-read.ensures.asks (rw c.as_slice.ensures.value at c.in_err-hit.ensures)

pub returns-in-None-clause-looks : goal.returns-in-None-clause-looks
returns-in-None-clause-looks g c =
    looked_at_all c.args.place (g.T.LookUps.rows c.args.table.now) c.args.reader.now.left c.loop-number.reader.left c.read_group-read.new.reader.left
    (g.S.Sink.state c.args.out.now) (g.S.Sink.state c.catch_up.new.out) (g.S.Sink.state c.look_each.new.out) c.args.block.now c.catch_up.new.block c.look_each.new.block
    c.loop-number.found c.in_ok-hit.hit c.if-found.found c.loop-number.number c.read_group-read.new.asked.items
    (caught_up c.args.place (g.T.LookUps.rows c.args.table.now) c.args.reader.now.left c.loop-number.reader.left (g.S.Sink.state c.args.out.now)
    (g.S.Sink.state c.loop-number.out) (g.S.Sink.state c.catch_up.new.out) c.args.block.now c.loop-number.block c.catch_up.new.block c.loop-number.found
    c.loop-number.number c.loop-number.invariant c.in_ok-catch_up.ensures)
    (rw (c.in-Ok.is, c.in-None.is) at c.read_group-read.ensures.asks) (rw c.as_slice.ensures.value at c.in_ok-hit.ensures)
    (either_of c.loop-number.found c.in_ok-hit.hit c.if-found.found
    (elim c.if-found.branch [ then-found w ↦ inl (w.if-found.true, w.found-is ∙ w.if-found.true) | else-found w ↦ inr (w.if-found.false, w.found-is) ]))

pub returns-in-Err-clause-looks : goal.returns-in-Err-clause-looks
returns-in-Err-clause-looks g c =
    looking_ended c.args.place (g.T.LookUps.rows c.args.table.now) c.args.reader.now.left c.loop-number.reader.left c.read_group-read.new.reader.left
    (g.S.Sink.state c.args.out.now) (g.S.Sink.state c.catch_up.new.out) (g.S.Sink.state c.look_each.new.out) c.args.block.now c.catch_up.new.block c.look_each.new.block
    c.loop-number.found c.in_ok-hit.hit c.loop-number.number c.read_group-read.new.asked.items c.in-Err.e
    (caught_up c.args.place (g.T.LookUps.rows c.args.table.now) c.args.reader.now.left c.loop-number.reader.left (g.S.Sink.state c.args.out.now)
    (g.S.Sink.state c.loop-number.out) (g.S.Sink.state c.catch_up.new.out) c.args.block.now c.loop-number.block c.catch_up.new.block c.loop-number.found
    c.loop-number.number c.loop-number.invariant c.in_ok-catch_up.ensures)
    c.in-Err.ensures.asks (rw c.as_slice.ensures.value at c.in_ok-hit.ensures)

pub loop-number-preserved : goal.loop-number-preserved
loop-number-preserved g c =
    looked_on c.args.place (g.T.LookUps.rows c.args.table.now) c.args.reader.now.left c.loop-number.reader.left c.read_group-read.new.reader.left
    (g.S.Sink.state c.args.out.now) (g.S.Sink.state c.catch_up.new.out) (g.S.Sink.state c.look_each.new.out) c.args.block.now c.catch_up.new.block c.look_each.new.block
    c.loop-number.found c.in_ok-hit.hit c.if-found.found c.loop-number.number c.in-Some.next c.read_group-read.new.asked.items
    (caught_up c.args.place (g.T.LookUps.rows c.args.table.now) c.args.reader.now.left c.loop-number.reader.left (g.S.Sink.state c.args.out.now)
    (g.S.Sink.state c.loop-number.out) (g.S.Sink.state c.catch_up.new.out) c.args.block.now c.loop-number.block c.catch_up.new.block c.loop-number.found
    c.loop-number.number c.loop-number.invariant c.in_ok-catch_up.ensures)
    (rw (c.in-Ok.is, c.in-Some.is) at c.read_group-read.ensures.asks) (rw c.as_slice.ensures.value at c.in_ok-hit.ensures)
    (either_of c.loop-number.found c.in_ok-hit.hit c.if-found.found
    (elim c.if-found.branch [ then-found w ↦ inl (w.if-found.true, w.found-is ∙ w.if-found.true) | else-found w ↦ inr (w.if-found.false, w.found-is) ]))

pub returns-in_err-catch_up-clause-cause : goal.returns-in_err-catch_up-clause-cause
returns-in_err-catch_up-clause-cause g c =
    let (y, is, same) = err_from_is_err_and c.from_residual.result c.from_residual.ensures.1 in
    rw (is, same) tt

pub returns-in_err-hit-clause-cause : goal.returns-in_err-hit-clause-cause
returns-in_err-hit-clause-cause g c =
    let (y, is, same) = err_from_is_err_and c.from_residual-in_err-hit.result c.from_residual-in_err-hit.ensures.1 in
    rw (is, same) tt

pub returns-in-Err-clause-cause : goal.returns-in-Err-clause-cause
returns-in-Err-clause-cause g c =
    lines_cause c.args.reader.now.left c.loop-number.reader.left (g.M.Memory.refused c.read_group-read.new.memory) c.in-Err.e
    (left_known (AllZip (LineLooks c.args.place (g.T.LookUps.rows c.args.table.now))) c.args.reader.now.left c.loop-number.reader.left c.loop-number.invariant.looks c.loop-number.number
    c.loop-number.invariant.passed)
    c.in-Err.ensures.cause

pub returns-clause-cause : goal.returns-clause-cause
returns-clause-cause g c =
    numbers_used (AllZip (LineLooks c.args.place (g.T.LookUps.rows c.args.table.now))) c.args.reader.now.left c.loop-number.reader.left c.loop-number.invariant.looks c.loop-number.number
    c.loop-number.invariant.passed c.loop-number-test.false
