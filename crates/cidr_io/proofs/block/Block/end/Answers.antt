use Rattle.std.proofs.Common.{sym, ◌∙◌}
use Rattle.cidr_io.proofs.Collected.{said_all, said_part}
use Rattle.cidr_io.proofs.block.Block.end.Goals as goal

pub returns-then-not-failed : goal.returns-then-not-failed
returns-then-not-failed g c start text said =
    said_all start (g.S.Sink.state c.args.out.now) (g.S.Sink.state c.flush.new.out) c.args.self.now text c.flush.result
    (sym c.failed.ensures ∙ c.if-not-failed.true) said c.flush.ensures.writes

pub returns-else-not-failed : goal.returns-else-not-failed
returns-else-not-failed g c start text said =
    said_part start (g.S.Sink.state c.args.out.now) c.args.self.now text (sym c.failed.ensures ∙ c.if-not-failed.false) said
