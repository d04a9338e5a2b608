use Rattle.netset_commands.proofs.HeadedTables.{headed_given}
use Rattle.netset_commands.proofs.input.headed.HeadedReaderSource.read_some.Goals as goal

pub returns-then-self : goal.returns-then-self
returns-then-self g c =
    rw c.if-self.true (headed_given (g.S.Source.left c.args.self.now.source) (g.S.Source.left c.read_some.new.self) c.in_ok-count.count c.read_some.new.buf
    c.blank-self.new.bytes c.blank-self.result c.in_ok-count.ensures c.blank-self.ensures.blanks c.blank-self.ensures.all)
