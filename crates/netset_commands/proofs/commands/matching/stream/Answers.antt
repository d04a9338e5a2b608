use Rattle.std.proofs.Common.{◌≡◌, ◌&&◌, ◌==◌, sym, refl}
use Rattle.cidr_io.specs.Lines.{MayFail as NoLineFails}
use Rattle.netset_commands.specs.Causes.{TextFails}
use Rattle.netset_commands.specs.Gathering.{label_of}
use Rattle.netset_commands.specs.Picking.{PicksOf}
use Rattle.cidr_lists.specs.Sets.{IsInSets}
use Rattle.netset_commands.specs.declared.errors.CommandError.TheVariants as error
use Rattle.netset_commands.specs.declared.errors.Reason.TheVariants.{Unknown}
use Rattle.netset_commands.proofs.Causes.{behind_cause, cause_weaker, output_cause, stop_cause, take_cause, told_fails}
use Rattle.netset_commands.proofs.Matched.{caught_up, ended, failed_before, go_on, left_known, lost, numbers_used, started, take_on, unread, unwritten}
use Rattle.netset_commands.proofs.commands.matching.stream.Goals as goal

pub returns-then-failed-clause-streams : goal.returns-then-failed-clause-streams
returns-then-failed-clause-streams g c =
    failed_before c.args.matcher.now.picking.headed (PicksOf c.args.matcher.now.picking (IsInSets c.args.matcher.now.sets.now)) (label_of c.args.matcher.now.name) c.args.matcher.now.picking.written c.args.file.now
    c.args.reader.now.left (g.S.Sink.state c.args.out.now) (sym c.if-failed.ensures)

pub loop-number-init : goal.loop-number-init
loop-number-init g c =
    started c.args.matcher.now.picking.headed (PicksOf c.args.matcher.now.picking (IsInSets c.args.matcher.now.sets.now)) (label_of c.args.matcher.now.name) c.args.matcher.now.picking.written
    c.args.reader.now.left (g.S.Sink.state c.args.out.now) c.new-gathered.result.count c.new-gathered.result.block
    c.new-gathered.ensures.count c.new-gathered.ensures.block

pub returns-in_default-clause-streams : goal.returns-in_default-clause-streams
returns-in_default-clause-streams g c =
    unwritten c.args.matcher.now.picking.headed (PicksOf c.args.matcher.now.picking (IsInSets c.args.matcher.now.sets.now)) (label_of c.args.matcher.now.name) c.args.matcher.now.picking.written c.args.file.now
    c.args.reader.now.left c.loop-number.reader.left (g.S.Sink.state c.args.out.now) (g.S.Sink.state c.loop-number.out)
    (g.S.Sink.state c.catch_up.new.out) c.loop-number.number c.loop-number.gathered.count c.loop-number.gathered.block c.loop-number.long
    (sym c.if-failed.ensures) c.in_default.ensures c.loop-number.invariant

pub returns-in-Err-clause-streams : goal.returns-in-Err-clause-streams
returns-in-Err-clause-streams g c =
    unread c.args.matcher.now.picking.headed (PicksOf c.args.matcher.now.picking (IsInSets c.args.matcher.now.sets.now)) (label_of c.args.matcher.now.name) c.args.matcher.now.picking.written c.args.file.now
    c.args.reader.now.left c.loop-number.reader.left (g.S.Sink.state c.args.out.now) (g.S.Sink.state c.catch_up.new.out)
    (g.S.Sink.state c.stop.new.out) c.loop-number.number c.loop-number.gathered.count c.catch_up.new.block c.loop-number.long _ c.stop.result
    (sym c.if-failed.ensures) c.in-Err.ensures.stopped
    (caught_up c.args.matcher.now.picking.headed (PicksOf c.args.matcher.now.picking (IsInSets c.args.matcher.now.sets.now)) (label_of c.args.matcher.now.name) c.args.matcher.now.picking.written
    c.args.reader.now.left c.loop-number.reader.left (g.S.Sink.state c.args.out.now) (g.S.Sink.state c.loop-number.out)
    (g.S.Sink.state c.catch_up.new.out) c.loop-number.number c.loop-number.gathered.count c.loop-number.gathered.count c.loop-number.gathered.block
    c.catch_up.new.block c.loop-number.long refl c.in-Ok.ensures c.loop-number.invariant)
    c.stop.ensures

pub returns-in-Err-take-clause-streams : goal.returns-in-Err-take-clause-streams
returns-in-Err-take-clause-streams g c =
    lost c.args.matcher.now.picking.headed (PicksOf c.args.matcher.now.picking (IsInSets c.args.matcher.now.sets.now)) (label_of c.args.matcher.now.name) c.args.matcher.now.picking.written c.args.file.now
    c.args.reader.now.left c.loop-number.reader.left c.next_part.new.reader.left
    (g.S.Sink.state c.args.out.now) (g.S.Sink.state c.catch_up.new.out) (g.S.Sink.state c.take.new.out) (g.S.Sink.state c.stop-in-Err-take.new.out)
    c.loop-number.number c.loop-number.gathered.count c.catch_up.new.block c.take.new.self.block c.next_part.new.reader.line
    c.in-Ok-next_part.has_more c.loop-number.long _ c.stop-in-Err-take.result (sym c.if-failed.ensures)
    (caught_up c.args.matcher.now.picking.headed (PicksOf c.args.matcher.now.picking (IsInSets c.args.matcher.now.sets.now)) (label_of c.args.matcher.now.name) c.args.matcher.now.picking.written
    c.args.reader.now.left c.loop-number.reader.left (g.S.Sink.state c.args.out.now) (g.S.Sink.state c.loop-number.out)
    (g.S.Sink.state c.catch_up.new.out) c.loop-number.number c.loop-number.gathered.count c.loop-number.gathered.count c.loop-number.gathered.block
    c.catch_up.new.block c.loop-number.long refl c.in-Ok.ensures c.loop-number.invariant)
    c.in-Ok-next_part.ensures.part (rw c.line-in-loop-number.ensures at c.in-Err-take.ensures) c.stop-in-Err-take.ensures

pub returns-then-is_done-clause-streams : goal.returns-then-is_done-clause-streams
returns-then-is_done-clause-streams g c =
    rw c.told_behind.ensures (ended c.args.matcher.now.picking.headed (PicksOf c.args.matcher.now.picking (IsInSets c.args.matcher.now.sets.now)) (label_of c.args.matcher.now.name) c.args.matcher.now.picking.written c.args.file
    c.args.reader.now.left c.next_part.new.reader.left
    (g.S.Sink.state c.args.out.now) (g.S.Sink.state c.take.new.out) (g.S.Sink.state c.finish.new.out)
    c.loop-number.number c.take.new.self c.in-Ok-next_part.has_more c.is_done.result c.first_long-long.result c.finish.result c.is_done.ensures c.if-is_done.true (sym c.if-failed.ensures)
    (take_on c.args.matcher.now.picking.headed (PicksOf c.args.matcher.now.picking (IsInSets c.args.matcher.now.sets.now)) (label_of c.args.matcher.now.name) c.args.matcher.now.picking.written c.args.file.now
    c.args.reader.now.left c.loop-number.reader.left c.next_part.new.reader.left
    (g.S.Sink.state c.args.out.now) (g.S.Sink.state c.catch_up.new.out) (g.S.Sink.state c.take.new.out)
    c.loop-number.number c.next_part.new.reader.line c.in-Ok-next_part.has_more (record { count = c.loop-number.gathered.count; block = c.catch_up.new.block }) c.take.new.self c.loop-number.long c.first_long-long.result
    (caught_up c.args.matcher.now.picking.headed (PicksOf c.args.matcher.now.picking (IsInSets c.args.matcher.now.sets.now)) (label_of c.args.matcher.now.name) c.args.matcher.now.picking.written
    c.args.reader.now.left c.loop-number.reader.left (g.S.Sink.state c.args.out.now) (g.S.Sink.state c.loop-number.out)
    (g.S.Sink.state c.catch_up.new.out) c.loop-number.number c.loop-number.gathered.count c.loop-number.gathered.count c.loop-number.gathered.block
    c.catch_up.new.block c.loop-number.long refl c.in-Ok.ensures c.loop-number.invariant) c.in-Ok-next_part.ensures.part (rw c.line.ensures at c.first_long-long.ensures) (rw c.line-in-loop-number.ensures at c.in-Ok-take.ensures))
    c.finish.ensures)

pub loop-number-preserved : goal.loop-number-preserved
loop-number-preserved g c =
    go_on c.args.matcher.now.picking.headed (PicksOf c.args.matcher.now.picking (IsInSets c.args.matcher.now.sets.now)) (label_of c.args.matcher.now.name) c.args.matcher.now.picking.written
    c.args.reader.now.left c.next_part.new.reader.left
    (g.S.Sink.state c.args.out.now) (g.S.Sink.state c.take.new.out)
    c.loop-number.number c.take.new.self.count c.take.new.self.block c.in-Ok-next_part.has_more c.is_done.result c.first_long-long.result c.is_done.ensures c.if-is_done.false
    (take_on c.args.matcher.now.picking.headed (PicksOf c.args.matcher.now.picking (IsInSets c.args.matcher.now.sets.now)) (label_of c.args.matcher.now.name) c.args.matcher.now.picking.written c.args.file.now
    c.args.reader.now.left c.loop-number.reader.left c.next_part.new.reader.left
    (g.S.Sink.state c.args.out.now) (g.S.Sink.state c.catch_up.new.out) (g.S.Sink.state c.take.new.out)
    c.loop-number.number c.next_part.new.reader.line c.in-Ok-next_part.has_more (record { count = c.loop-number.gathered.count; block = c.catch_up.new.block }) c.take.new.self c.loop-number.long c.first_long-long.result
    (caught_up c.args.matcher.now.picking.headed (PicksOf c.args.matcher.now.picking (IsInSets c.args.matcher.now.sets.now)) (label_of c.args.matcher.now.name) c.args.matcher.now.picking.written
    c.args.reader.now.left c.loop-number.reader.left (g.S.Sink.state c.args.out.now) (g.S.Sink.state c.loop-number.out)
    (g.S.Sink.state c.catch_up.new.out) c.loop-number.number c.loop-number.gathered.count c.loop-number.gathered.count c.loop-number.gathered.block
    c.catch_up.new.block c.loop-number.long refl c.in-Ok.ensures c.loop-number.invariant) c.in-Ok-next_part.ensures.part (rw c.line.ensures at c.first_long-long.ensures) (rw c.line-in-loop-number.ensures at c.in-Ok-take.ensures))

pub returns-clause-streams : goal.returns-clause-streams
returns-clause-streams g c =
    unread c.args.matcher.now.picking.headed (PicksOf c.args.matcher.now.picking (IsInSets c.args.matcher.now.sets.now)) (label_of c.args.matcher.now.name) c.args.matcher.now.picking.written c.args.file.now
    c.args.reader.now.left c.loop-number.reader.left (g.S.Sink.state c.args.out.now) (g.S.Sink.state c.loop-number.out)
    (g.S.Sink.state c.stop-2.new.out) c.loop-number.number c.loop-number.gathered.count c.loop-number.gathered.block c.loop-number.long (error.Input c.args.file Unknown) c.stop-2.result
    (sym c.if-failed.ensures) refl c.loop-number.invariant c.stop-2.ensures

pub returns-in-Err-clause-cause : goal.returns-in-Err-clause-cause
returns-in-Err-clause-cause g c =
    let st = c.loop-number.invariant in
    let known = left_known c.args.matcher.now.picking.headed (PicksOf c.args.matcher.now.picking (IsInSets c.args.matcher.now.sets.now)) (label_of c.args.matcher.now.name) c.args.matcher.now.picking.written c.args.reader.now.left c.loop-number.reader.left (g.S.Sink.state c.args.out.now) (g.S.Sink.state c.loop-number.out)
    c.loop-number.number c.loop-number.gathered.count c.loop-number.gathered.block c.loop-number.long st in
    stop_cause (λ name _. (name ≡ c.args.file.now) × TextFails c.args.reader.now.left) (g.M.Memory.refused c.next_part.new.memory) _ _ _ _ _ c.stop.ensures
    (cause_weaker (λ name _. (name ≡ c.args.file.now) × NoLineFails c.loop-number.reader.left) (λ name _. (name ≡ c.args.file.now) × TextFails c.args.reader.now.left)
    (g.M.Memory.refused c.next_part.new.memory) _ (λ name why k. (k.0, told_fails c.args.reader.now.left c.loop-number.reader.left known k.1)) c.in-Err.ensures.cause)

pub returns-in-Err-take-clause-cause : goal.returns-in-Err-take-clause-cause
returns-in-Err-take-clause-cause g c =
    stop_cause (λ name _. (name ≡ c.args.file.now) × TextFails c.args.reader.now.left) (g.M.Memory.refused c.next_part.new.memory) _ _ _ _ _ c.stop-in-Err-take.ensures
    (take_cause (λ name _. (name ≡ c.args.file.now) × TextFails c.args.reader.now.left) (g.M.Memory.refused c.next_part.new.memory)
    (c.args.matcher.now.picking.headed && (c.loop-number.number == 1)) (PicksOf c.args.matcher.now.picking (IsInSets c.args.matcher.now.sets.now)) (label_of c.args.matcher.now.name) c.args.matcher.now.picking.written c.args.file.now
    c.loop-number.number c.next_part.new.reader.line (g.S.Sink.state c.catch_up.new.out) (g.S.Sink.state c.take.new.out) c.catch_up.new.block
    c.take.new.self.block _ (rw c.line-in-loop-number.ensures at c.in-Err-take.ensures).1)

pub returns-then-is_done-clause-cause : goal.returns-then-is_done-clause-cause
returns-then-is_done-clause-cause g c =
    let (verdict, w, counted, writes, is) = c.finish.ensures in
    rw c.told_behind.ensures (behind_cause (λ name _. (name ≡ c.args.file.now) × TextFails c.args.reader.now.left) (g.M.Memory.refused c.next_part.new.memory) c.args.file
    c.first_long-long.result c.finish.result
    (output_cause (λ name _. (name ≡ c.args.file.now) × TextFails c.args.reader.now.left) (g.M.Memory.refused c.next_part.new.memory) verdict w c.finish.result is))

pub returns-clause-cause : goal.returns-clause-cause
returns-clause-cause g c =
    stop_cause (λ name _. (name ≡ c.args.file.now) × TextFails c.args.reader.now.left) (g.M.Memory.refused c.loop-number.memory) (error.Input c.args.file Unknown) _ _ _ _ c.stop-2.ensures (
      refl,
      numbers_used c.args.matcher.now.picking.headed (PicksOf c.args.matcher.now.picking (IsInSets c.args.matcher.now.sets.now)) (label_of c.args.matcher.now.name) c.args.matcher.now.picking.written c.args.reader.now.left c.loop-number.reader.left (g.S.Sink.state c.args.out.now) (g.S.Sink.state c.loop-number.out)
          c.loop-number.number c.loop-number.gathered.count c.loop-number.gathered.block c.loop-number.long c.loop-number.invariant c.loop-number-test.false,
    )
