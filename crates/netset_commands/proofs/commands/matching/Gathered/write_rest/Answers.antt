use Rattle.netset_commands.specs.Gathering.{label_of, rest_written}
use Rattle.netset_commands.proofs.Matched.{rest_gone}
use Rattle.netset_commands.proofs.commands.matching.Gathered.write_rest.Goals as goal

pub returns : goal.returns
returns g c =
    rest_gone (g.S.Sink.state c.args.out.now) (g.S.Sink.state c.push_count.new.out) (g.S.Sink.state c.flush.new.out)
    c.args.self.now.block c.push_count.new.self.block (rest_written (label_of c.args.matcher.now.name) c.args.matcher.now.picking.written c.args.self.now.count) c.flush.result
    c.in_ok-push_count.ensures c.flush.ensures.writes
