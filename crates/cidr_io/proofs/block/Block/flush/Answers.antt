use Rattle.cidr_io.proofs.Chains.{then_flushed}
use Rattle.cidr_io.proofs.block.Block.flush.Goals as goal

pub returns-clause-writes : goal.returns-clause-writes
returns-clause-writes g c =
    then_flushed (g.S.Sink.state c.args.out.now) (g.S.Sink.state c.write.new.out) (g.S.Sink.state c.flush.new.out) c.args.self.now c.flush.result
    c.in_ok-write.ensures.writes c.flush.ensures
