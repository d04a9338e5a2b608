use Rattle.netset_commands.proofs.Begun.{first_given}
use Rattle.netset_commands.proofs.input.begun.BegunSource.read_some.Goals as goal

pub returns : goal.returns
returns g c =
    rw c.in-Some.is (first_given (g.S.Source.left c.args.self.now.source) c.in-Some.first c.args.buf.now c.is_empty.result c.is_empty.ensures c.if-is_empty.false)
