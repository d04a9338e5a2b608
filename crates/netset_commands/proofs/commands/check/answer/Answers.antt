use Rattle.std.proofs.Common.{sym}
use Rattle.netset_commands.proofs.Checked.{notes_answered, nothing_answered}
use Rattle.netset_commands.proofs.commands.check.answer.Goals as goal

pub returns-then-failed : goal.returns-then-failed
returns-then-failed g c =
    nothing_answered c.args.entries.now c.args.near.now c.requires (g.S.Sink.state c.args.out.now) _ (sym c.if-failed.ensures)

pub returns : goal.returns
returns g c =
    notes_answered c.args.entries.now (g.S.Sink.state c.args.out.now) (g.S.Sink.state c.tell_all.new.out) c.tell_all.result (sym c.if-failed.ensures) c.tell_all.ensures
