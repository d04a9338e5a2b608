use Rattle.std.proofs.Common.{◌≡◌, ◌+◌, ◌*◌, ℕ, arith, subst}
use Rattle.std.proofs.lemmas.Result.{err_from_is_err_and}
use Rattle.netset_commands.specs.Findings.{AreNoted}
use Rattle.netset_commands.proofs.Checked.{all_lost, all_told, last_lost, none_noted_yet}
use Rattle.netset_commands.proofs.commands.check.tell_all.Goals as goal

pub loop-index-init : goal.loop-index-init
loop-index-init g c = none_noted_yet c.args.entries.now (g.S.Sink.state c.args.out.now) c.new.result c.new.ensures

pub loop-index-preserved : goal.loop-index-preserved
loop-index-preserved g c =
    let i = c.loop-index.index in
    let same : i * 5 + 5 ≡ (i + 1) * 5 = omega arith in
    subst (λ (k : ℕ). AreNoted c.args.entries.now k (g.S.Sink.state c.args.out.now) (g.S.Sink.state c.tell_line.new.out) c.tell_line.new.messages.block c.tell_line.new.messages.verdict)
    same (c.in_ok-tell_line.ensures (g.S.Sink.state c.args.out.now) c.loop-index.invariant)

pub returns-in_err-tell_line : goal.returns-in_err-tell_line
returns-in_err-tell_line g c =
    let (y, is, same) = err_from_is_err_and c.from_residual.result c.from_residual.ensures.1 in
    all_lost c.args.entries.now (g.S.Sink.state c.args.out.now) (g.S.Sink.state c.tell_line.new.out) c.from_residual.result y is
    (c.in_err-tell_line.ensures (g.S.Sink.state c.args.out.now) c.loop-index.invariant)

pub returns-in_err-flush : goal.returns-in_err-flush
returns-in_err-flush g c =
    let (y, is, same) = err_from_is_err_and c.from_residual-in_err-flush.result c.from_residual-in_err-flush.ensures.1 in
    all_lost c.args.entries.now (g.S.Sink.state c.args.out.now) (g.S.Sink.state c.flush.new.out) c.from_residual-in_err-flush.result y is
    (last_lost c.args.entries.now c.loop-index.index (g.S.Sink.state c.args.out.now) (g.S.Sink.state c.loop-index.out) (g.S.Sink.state c.flush.new.out)
    c.loop-index.messages.block c.loop-index.messages.verdict y c.loop-index-test.false c.loop-index.invariant c.in_err-flush.ensures.writes)

pub returns : goal.returns
returns g c =
    all_told c.args.entries.now c.loop-index.index (g.S.Sink.state c.args.out.now) (g.S.Sink.state c.loop-index.out) (g.S.Sink.state c.flush.new.out)
    c.loop-index.messages.block c.loop-index.messages.verdict c.loop-index-test.false c.loop-index.invariant c.in_ok-flush.ensures.writes
