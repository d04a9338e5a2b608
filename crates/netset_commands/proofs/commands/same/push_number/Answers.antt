use Rattle.cidr_io.proofs.Collected.{none_collected}
use Rattle.netset_commands.proofs.commands.same.push_number.Goals as goal

pub returns-in-Some : goal.returns-in-Some
returns-in-Some g c = rw c.in-Some.is (rw (c.value.ensures, c.as_bytes.ensures.value, c.sign_text.ensures) at c.push_row.ensures)

pub returns-in-None : goal.returns-in-None
returns-in-None g c = rw c.in-None.is (none_collected (g.S.Sink.state c.args.out.now) c.args.block.now)
