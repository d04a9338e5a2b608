use Rattle.std.proofs.Common.{◌≡◌, sym, refl, subst, inl, inr, ◌∙◌, Err, List, ℕ}
use Rattle.cidr_io.specs.Lines.{MayFail as NoLineFails}
use Rattle.netset_commands.specs.Causes.{TextFails}
use Rattle.netset_commands.specs.KeptLines.{TellsPart}
use Rattle.netset_commands.specs.declared.errors.CommandError.TheVariants as error
use Rattle.netset_commands.specs.declared.errors.Reason.TheVariants.{Unknown}
use Rattle.netset_commands.proofs.Causes.{cause_weaker, output_cause, stop_cause, told_fails}
use Rattle.netset_commands.proofs.Kept.{caught_up, ended, failed_before, go_on, left_known, lost, numbers_used, started, take_on, unread, unwritten}
use Rattle.netset_commands.proofs.Looked.{either_of}
use Rattle.netset_commands.proofs.commands.kept.tell_lines.Goals as goal
use Rattle.netset_commands.proofs.commands.kept.tell_lines.Goals.{then-found, else-found}

pub returns-then-failed-clause-tells : goal.returns-then-failed-clause-tells
returns-then-failed-clause-tells g c =
    failed_before c.args.telling c.args.place (g.T.LookUps.rows c.args.table.now) c.args.file.now c.args.reader.now.left (g.S.Sink.state c.args.out.now) (sym c.if-failed.ensures)

pub loop-number-init : goal.loop-number-init
loop-number-init g c =
    started c.args.telling c.args.place (g.T.LookUps.rows c.args.table.now) c.args.reader.now.left (g.S.Sink.state c.args.out.now) c.new-block.result c.new-block.ensures

pub returns-in_default-clause-tells : goal.returns-in_default-clause-tells
returns-in_default-clause-tells g c =
    unwritten c.args.telling c.args.place (g.T.LookUps.rows c.args.table.now) c.args.file.now c.args.reader.now.left c.loop-number.reader.left (g.S.Sink.state c.args.out.now) (g.S.Sink.state c.loop-number.out)
    (g.S.Sink.state c.catch_up.new.out) c.loop-number.number c.loop-number.block c.loop-number.found (sym c.if-failed.ensures) c.in_default.ensures c.loop-number.invariant

pub returns-in-Err-clause-tells : goal.returns-in-Err-clause-tells
returns-in-Err-clause-tells g c =
    unread c.args.telling c.args.place (g.T.LookUps.rows c.args.table.now) c.args.file.now c.args.reader.now.left c.loop-number.reader.left (g.S.Sink.state c.args.out.now) (g.S.Sink.state c.catch_up.new.out)
    (g.S.Sink.state c.stop.new.out) c.loop-number.number c.catch_up.new.block c.loop-number.found _ c.stop.result (sym c.if-failed.ensures) c.in-Err.ensures.stopped
    (caught_up c.args.telling c.args.place (g.T.LookUps.rows c.args.table.now) c.args.reader.now.left c.loop-number.reader.left (g.S.Sink.state c.args.out.now) (g.S.Sink.state c.loop-number.out)
    (g.S.Sink.state c.catch_up.new.out) c.loop-number.number c.loop-number.block c.catch_up.new.block c.loop-number.found c.in-Ok.ensures c.loop-number.invariant) c.stop.ensures

pub returns-in-Err-tell_part-clause-tells : goal.returns-in-Err-tell_part-clause-tells
returns-in-Err-tell_part-clause-tells g c =
    lost c.args.telling c.args.place (g.T.LookUps.rows c.args.table.now) c.args.file.now c.args.reader.now.left c.loop-number.reader.left c.next_part.new.reader.left
    (g.S.Sink.state c.args.out.now) (g.S.Sink.state c.catch_up.new.out) (g.S.Sink.state c.tell_part.new.out) (g.S.Sink.state c.stop-in-Err-tell_part.new.out)
    c.loop-number.number c.catch_up.new.block c.tell_part.new.block c.next_part.new.reader.line c.in-Ok-next_part.has_more c.loop-number.found _
    c.stop-in-Err-tell_part.result (sym c.if-failed.ensures)
    (caught_up c.args.telling c.args.place (g.T.LookUps.rows c.args.table.now) c.args.reader.now.left c.loop-number.reader.left (g.S.Sink.state c.args.out.now) (g.S.Sink.state c.loop-number.out)
    (g.S.Sink.state c.catch_up.new.out) c.loop-number.number c.loop-number.block c.catch_up.new.block c.loop-number.found c.in-Ok.ensures c.loop-number.invariant) c.in-Ok-next_part.ensures.part (subst (λ (k : List ℕ). TellsPart c.args.telling c.args.place (g.T.LookUps.rows c.args.table.now) c.args.file.now c.loop-number.number k c.in-Ok-next_part.has_more
    (g.S.Sink.state c.catch_up.new.out) (g.S.Sink.state c.tell_part.new.out) c.catch_up.new.block c.tell_part.new.block (Err c.in-Err-tell_part.e)) c.line.ensures c.in-Err-tell_part.ensures.tells) c.stop-in-Err-tell_part.ensures

pub returns-then-not-has_more-clause-tells : goal.returns-then-not-has_more-clause-tells
returns-then-not-has_more-clause-tells g c =
    ended c.args.telling c.args.place (g.T.LookUps.rows c.args.table.now) c.args.file.now c.args.reader.now.left c.next_part.new.reader.left (g.S.Sink.state c.args.out.now) (g.S.Sink.state c.tell_part.new.out)
    (g.S.Sink.state c.flush.new.out) c.loop-number.number c.tell_part.new.block c.in-Ok-next_part.has_more c.if-found.found c.flush.result c.by_output.result
    c.if-not-has_more.true (sym c.if-failed.ensures)
    (take_on c.args.telling c.args.place (g.T.LookUps.rows c.args.table.now) c.args.file.now c.args.reader.now.left c.loop-number.reader.left c.next_part.new.reader.left
    (g.S.Sink.state c.args.out.now) (g.S.Sink.state c.catch_up.new.out) (g.S.Sink.state c.tell_part.new.out)
    c.loop-number.number c.next_part.new.reader.line c.in-Ok-next_part.has_more c.catch_up.new.block c.tell_part.new.block c.loop-number.found c.in-Ok-tell_part.hit c.if-found.found
    (either_of c.loop-number.found c.in-Ok-tell_part.hit c.if-found.found
    (elim c.if-found.branch [ then-found w ↦ inl (w.if-found.true, w.found-is ∙ w.if-found.true) | else-found w ↦ inr (w.if-found.false, w.found-is) ]))
    (caught_up c.args.telling c.args.place (g.T.LookUps.rows c.args.table.now) c.args.reader.now.left c.loop-number.reader.left (g.S.Sink.state c.args.out.now) (g.S.Sink.state c.loop-number.out)
    (g.S.Sink.state c.catch_up.new.out) c.loop-number.number c.loop-number.block c.catch_up.new.block c.loop-number.found c.in-Ok.ensures c.loop-number.invariant) c.in-Ok-next_part.ensures.part (rw c.line.ensures at c.in-Ok-tell_part.ensures.tells))
    c.flush.ensures.writes (rw c.verdict_of.ensures at c.by_output.ensures)

pub loop-number-preserved : goal.loop-number-preserved
loop-number-preserved g c =
    go_on c.args.telling c.args.place (g.T.LookUps.rows c.args.table.now) c.args.reader.now.left c.next_part.new.reader.left (g.S.Sink.state c.args.out.now) (g.S.Sink.state c.tell_part.new.out)
    c.loop-number.number c.tell_part.new.block c.in-Ok-next_part.has_more c.if-found.found c.if-not-has_more.false
    (take_on c.args.telling c.args.place (g.T.LookUps.rows c.args.table.now) c.args.file.now c.args.reader.now.left c.loop-number.reader.left c.next_part.new.reader.left
    (g.S.Sink.state c.args.out.now) (g.S.Sink.state c.catch_up.new.out) (g.S.Sink.state c.tell_part.new.out)
    c.loop-number.number c.next_part.new.reader.line c.in-Ok-next_part.has_more c.catch_up.new.block c.tell_part.new.block c.loop-number.found c.in-Ok-tell_part.hit c.if-found.found
    (either_of c.loop-number.found c.in-Ok-tell_part.hit c.if-found.found
    (elim c.if-found.branch [ then-found w ↦ inl (w.if-found.true, w.found-is ∙ w.if-found.true) | else-found w ↦ inr (w.if-found.false, w.found-is) ]))
    (caught_up c.args.telling c.args.place (g.T.LookUps.rows c.args.table.now) c.args.reader.now.left c.loop-number.reader.left (g.S.Sink.state c.args.out.now) (g.S.Sink.state c.loop-number.out)
    (g.S.Sink.state c.catch_up.new.out) c.loop-number.number c.loop-number.block c.catch_up.new.block c.loop-number.found c.in-Ok.ensures c.loop-number.invariant) c.in-Ok-next_part.ensures.part (rw c.line.ensures at c.in-Ok-tell_part.ensures.tells))

pub returns-clause-tells : goal.returns-clause-tells
returns-clause-tells g c =
    unread c.args.telling c.args.place (g.T.LookUps.rows c.args.table.now) c.args.file.now c.args.reader.now.left c.loop-number.reader.left (g.S.Sink.state c.args.out.now) (g.S.Sink.state c.loop-number.out)
    (g.S.Sink.state c.stop-2.new.out) c.loop-number.number c.loop-number.block c.loop-number.found (error.Input c.args.file Unknown) c.stop-2.result
    (sym c.if-failed.ensures) refl c.loop-number.invariant c.stop-2.ensures

pub returns-in-Err-clause-cause : goal.returns-in-Err-clause-cause
returns-in-Err-clause-cause g c =
    let known = left_known c.args.telling c.args.place (g.T.LookUps.rows c.args.table.now) c.args.reader.now.left c.loop-number.reader.left (g.S.Sink.state c.args.out.now) (g.S.Sink.state c.loop-number.out)
    c.loop-number.number c.loop-number.block c.loop-number.found c.loop-number.invariant in
    stop_cause (λ name _. (name ≡ c.args.file.now) × TextFails c.args.reader.now.left) (g.M.Memory.refused c.next_part.new.memory) _ _ _ _ _ c.stop.ensures
    (cause_weaker (λ name _. (name ≡ c.args.file.now) × NoLineFails c.loop-number.reader.left) (λ name _. (name ≡ c.args.file.now) × TextFails c.args.reader.now.left)
    (g.M.Memory.refused c.next_part.new.memory) _ (λ name why k. (k.0, told_fails c.args.reader.now.left c.loop-number.reader.left known k.1)) c.in-Err.ensures.cause)

pub returns-in-Err-tell_part-clause-cause : goal.returns-in-Err-tell_part-clause-cause
returns-in-Err-tell_part-clause-cause g c =
    stop_cause (λ name _. (name ≡ c.args.file.now) × TextFails c.args.reader.now.left) (g.M.Memory.refused c.tell_part.new.memory) _ _ _ _ _ c.stop-in-Err-tell_part.ensures
    (cause_weaker (λ _ _. ⊥) (λ name _. (name ≡ c.args.file.now) × TextFails c.args.reader.now.left) (g.M.Memory.refused c.tell_part.new.memory) _ (λ name why never. absurd never)
    c.in-Err-tell_part.ensures.cause)

pub returns-then-not-has_more-clause-cause : goal.returns-then-not-has_more-clause-cause
returns-then-not-has_more-clause-cause g c =
    output_cause (λ name _. (name ≡ c.args.file.now) × TextFails c.args.reader.now.left) (g.M.Memory.refused c.tell_part.new.memory) _ _ c.by_output.result c.by_output.ensures

pub returns-clause-cause : goal.returns-clause-cause
returns-clause-cause g c =
    stop_cause (λ name _. (name ≡ c.args.file.now) × TextFails c.args.reader.now.left) (g.M.Memory.refused c.loop-number.memory) (error.Input c.args.file Unknown) _ _ _ _ c.stop-2.ensures (
      refl,
      numbers_used c.args.telling c.args.place (g.T.LookUps.rows c.args.table.now) c.args.reader.now.left c.loop-number.reader.left (g.S.Sink.state c.args.out.now) (g.S.Sink.state c.loop-number.out)
          c.loop-number.number c.loop-number.block c.loop-number.found c.loop-number.invariant c.loop-number-test.false,
    )
