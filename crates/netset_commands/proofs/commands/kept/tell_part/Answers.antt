use Rattle.netset_commands.proofs.Kept.{no_line_kept, part_told}
use Rattle.netset_commands.proofs.commands.kept.tell_part.Goals as goal

pub returns-then-not-is_line-clause-tells : goal.returns-then-not-is_line-clause-tells
returns-then-not-is_line-clause-tells g c =
    no_line_kept c.args.telling c.args.place (g.T.LookUps.rows c.args.table.now) c.args.file.now c.args.number c.args.part.now c.args.has_more (g.S.Sink.state c.args.out.now) c.args.block.now
    (c.is_line.ensures.none c.if-not-is_line.true)

pub returns-in-Ok-clause-tells : goal.returns-in-Ok-clause-tells
returns-in-Ok-clause-tells g c =
    part_told c.args.telling c.args.place (g.T.LookUps.rows c.args.table.now) c.args.file.now c.args.number c.args.part.now c.args.has_more c.in-Ok.asked (g.S.Sink.state c.args.out.now)
    (g.S.Sink.state c.tell_line.new.out) c.args.block.now c.tell_line.new.block c.tell_line.result (c.is_line.ensures.line c.if-not-is_line.false) c.in-Ok.ensures
    c.tell_line.ensures.tells
