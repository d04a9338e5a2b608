use Rattle.std.proofs.Common.{sym}
use Rattle.netset_commands.proofs.Headed.{all_behind, behind_cause, header_alone, header_lost, not_read, nothing_told, part_behind, too_long}
use Rattle.netset_commands.proofs.LinesRead.{fits}
use Rattle.netset_commands.proofs.commands.look.look_behind.Goals as goal

pub returns-then-failed-clause-tells : goal.returns-then-failed-clause-tells
returns-then-failed-clause-tells g c =
    nothing_told c.args.telling c.args.place (g.T.LookUps.rows c.args.table.now)
    c.args.reader.now.left c.args.file.now (g.O.Sink.state c.args.out.now) (sym c.if-failed.ensures)

pub returns-in-Err-clause-tells : goal.returns-in-Err-clause-tells
returns-in-Err-clause-tells g c =
    not_read c.args.telling c.args.place (g.T.LookUps.rows c.args.table.now)
    c.args.reader.now.left c.args.file.now (g.O.Sink.state c.args.out.now) c.in-Err.e (sym c.if-failed.ensures) c.in-Err.ensures.stopped

pub returns-then-is_too_long-clause-tells : goal.returns-then-is_too_long-clause-tells
returns-then-is_too_long-clause-tells g c =
    too_long c.args.telling c.args.place (g.T.LookUps.rows c.args.table.now)
    c.args.reader.now.left c.next_part.new.reader.left c.next_part.new.reader.line c.in-Ok.has_more c.args.file (g.O.Sink.state c.args.out.now) (sym c.if-failed.ensures)
    ((rw c.line.ensures at c.is_too_long.ensures).0 c.if-is_too_long.true) c.in-Ok.ensures.part

pub returns-in_default-clause-tells : goal.returns-in_default-clause-tells
returns-in_default-clause-tells g c =
    header_lost c.args.telling c.args.place (g.T.LookUps.rows c.args.table.now)
    c.args.reader.now.left c.next_part.new.reader.left c.next_part.new.reader.line c.in-Ok.has_more c.args.file.now (g.O.Sink.state c.args.out.now) (g.O.Sink.state c.write_header.new.out) (sym c.if-failed.ensures)
    (fits c.next_part.new.reader.line c.is_too_long.result (rw c.line.ensures at c.is_too_long.ensures) c.if-is_too_long.false) c.in-Ok.ensures.part (rw c.line-2.ensures at c.in_default.ensures)

pub returns-then-not-has_more-clause-tells : goal.returns-then-not-has_more-clause-tells
returns-then-not-has_more-clause-tells g c =
    header_alone c.args.telling c.args.place (g.T.LookUps.rows c.args.table.now)
    c.args.reader.now.left c.next_part.new.reader.left c.next_part.new.reader.line c.in-Ok.has_more c.args.file.now (g.O.Sink.state c.args.out.now) (g.O.Sink.state c.write_header.new.out) c.if-not-has_more.true (sym c.if-failed.ensures)
    (fits c.next_part.new.reader.line c.is_too_long.result (rw c.line.ensures at c.is_too_long.ensures) c.if-is_too_long.false) c.in-Ok.ensures.part (rw c.line-2.ensures at c.in-Ok-write_header.ensures)

pub returns-in-Ok-look_left-clause-tells : goal.returns-in-Ok-look_left-clause-tells
returns-in-Ok-look_left-clause-tells g c =
    all_behind c.args.telling c.args.place (g.T.LookUps.rows c.args.table.now)
    c.args.reader.now.left c.next_part.new.reader.left c.next_part.new.reader.line c.in-Ok.has_more c.args.file.now (g.O.Sink.state c.args.out.now) (g.O.Sink.state c.write_header.new.out)
    (g.O.Sink.state c.look_left.new.out) c.in-Ok-look_left.verdict c.if-not-has_more.false (sym c.if-failed.ensures)
    (fits c.next_part.new.reader.line c.is_too_long.result (rw c.line.ensures at c.is_too_long.ensures) c.if-is_too_long.false) c.in-Ok.ensures.part (rw c.line-2.ensures at c.in-Ok-write_header.ensures) c.in-Ok-look_left.ensures.tells

pub returns-in-Err-look_left-clause-tells : goal.returns-in-Err-look_left-clause-tells
returns-in-Err-look_left-clause-tells g c =
    part_behind c.args.telling c.args.place (g.T.LookUps.rows c.args.table.now)
    c.args.reader.now.left c.next_part.new.reader.left c.next_part.new.reader.line c.in-Ok.has_more c.args.file.now (g.O.Sink.state c.args.out.now) (g.O.Sink.state c.write_header.new.out)
    (g.O.Sink.state c.look_left.new.out) c.in-Err-look_left.e c.behind_header.result c.if-not-has_more.false (sym c.if-failed.ensures)
    (fits c.next_part.new.reader.line c.is_too_long.result (rw c.line.ensures at c.is_too_long.ensures) c.if-is_too_long.false) c.in-Ok.ensures.part (rw c.line-2.ensures at c.in-Ok-write_header.ensures) c.behind_header.ensures c.in-Err-look_left.ensures.tells

pub returns-in-Err-look_left-clause-cause : goal.returns-in-Err-look_left-clause-cause
returns-in-Err-look_left-clause-cause g c =
    behind_cause c.args.telling c.args.place (g.T.LookUps.rows c.args.table.now)
    c.args.reader.now.left c.next_part.new.reader.left c.next_part.new.reader.line c.in-Ok.has_more c.args.file.now (g.O.Sink.state c.write_header.new.out) (g.O.Sink.state c.look_left.new.out)
    (g.M.Memory.refused c.look_left.new.memory) c.in-Err-look_left.e c.behind_header.result c.if-not-has_more.false c.in-Ok.ensures.part c.in-Err-look_left.ensures.tells
    c.behind_header.ensures c.in-Err-look_left.ensures.cause
