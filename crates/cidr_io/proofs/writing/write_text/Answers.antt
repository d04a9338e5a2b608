use Rattle.std.proofs.Common.{sym}
use Rattle.cidr_io.proofs.Chains.{answered, then_flushed}
use Rattle.cidr_io.proofs.writing.write_text.Goals as goal

pub returns : goal.returns
returns g c =
    let written = rw c.as_bytes.ensures.value at c.in_ok-write_all.ensures in
    answered _ _ _ _ (sym c.if-failed.ensures)
    (then_flushed (g.S.Sink.state c.args.out.now) (g.S.Sink.state c.write_all.new.out) (g.S.Sink.state c.flush.new.out) c.args.text.now c.flush.result written c.flush.ensures)
