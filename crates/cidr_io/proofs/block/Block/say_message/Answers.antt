use Rattle.std.proofs.Common.{sym, ◌∙◌}
use Rattle.cidr_io.proofs.Collected.{said_more, said_past}
use Rattle.cidr_io.proofs.block.Block.say_message.Goals as goal

pub returns-then-not-failed : goal.returns-then-not-failed
returns-then-not-failed g c start text said =
    said_more start (g.S.Sink.state c.args.out.now) (g.S.Sink.state c.push_message.new.out) c.args.self.now c.push_message.new.self text _ c.push_message.result
    (sym c.failed.ensures ∙ c.if-not-failed.true) said c.push_message.ensures

pub returns-else-not-failed : goal.returns-else-not-failed
returns-else-not-failed g c start text said =
    said_past start (g.S.Sink.state c.args.out.now) c.args.self.now c.args.self.now text _ (sym c.failed.ensures ∙ c.if-not-failed.false) said
