use Rattle.std.proofs.Common.{◌≡◌, ◌+◌, ◌*◌, ℕ, arith, subst}
use Rattle.std.proofs.lemmas.Result.{err_from_is_err_and}
use Rattle.netset_commands.specs.Findings.{NotesOn}
use Rattle.netset_commands.proofs.Checked.{notes_lost}
use Rattle.netset_commands.proofs.commands.check.tell_line.Goals as goal

pub returns : goal.returns
returns g c start noted =
    let i = c.args.index in
    let k1 = c.in_ok-tell.ensures start (i * 5) (omega arith) noted in
    let k2 = c.in_ok-tell-2.ensures start (i * 5 + 1) (omega arith) k1 in
    let k3 = c.in_ok-tell-3.ensures start (i * 5 + 1 + 1) (omega arith) k2 in
    let k4 = c.in_ok-tell-4.ensures start (i * 5 + 1 + 1 + 1) (omega arith) k3 in
    let all : i * 5 + 1 + 1 + 1 + 1 + 1 ≡ i * 5 + 5 = omega arith in
    subst (λ (k : ℕ). NotesOn c.args.entries.now k start (g.S.Sink.state c.tell-5.new.out) c.tell-5.new.messages.block c.tell-5.new.messages.verdict c.tell-5.result) all
    (c.tell-5.ensures start (i * 5 + 1 + 1 + 1 + 1) (omega arith) k4)

pub returns-in_err-tell : goal.returns-in_err-tell
returns-in_err-tell g c start noted =
    let i = c.args.index in
    let (y, is, same) = err_from_is_err_and c.from_residual.result c.from_residual.ensures.1 in
    notes_lost c.args.entries.now (i * 5 + 5) start (g.S.Sink.state c.tell.new.out) c.tell.new.messages.block c.tell.new.messages.verdict c.from_residual.result y is
    (c.in_err-tell.ensures start (i * 5) (omega arith) noted)

pub returns-in_err-tell-2 : goal.returns-in_err-tell-2
returns-in_err-tell-2 g c start noted =
    let i = c.args.index in
    let k1 = c.in_ok-tell.ensures start (i * 5) (omega arith) noted in
    let (y, is, same) = err_from_is_err_and c.from_residual-in_err-tell-2.result c.from_residual-in_err-tell-2.ensures.1 in
    notes_lost c.args.entries.now (i * 5 + 5) start (g.S.Sink.state c.tell-2.new.out) c.tell-2.new.messages.block c.tell-2.new.messages.verdict
    c.from_residual-in_err-tell-2.result y is (c.in_err-tell-2.ensures start (i * 5 + 1) (omega arith) k1)

pub returns-in_err-tell-3 : goal.returns-in_err-tell-3
returns-in_err-tell-3 g c start noted =
    let i = c.args.index in
    let k1 = c.in_ok-tell.ensures start (i * 5) (omega arith) noted in
    let k2 = c.in_ok-tell-2.ensures start (i * 5 + 1) (omega arith) k1 in
    let (y, is, same) = err_from_is_err_and c.from_residual-in_err-tell-3.result c.from_residual-in_err-tell-3.ensures.1 in
    notes_lost c.args.entries.now (i * 5 + 5) start (g.S.Sink.state c.tell-3.new.out) c.tell-3.new.messages.block c.tell-3.new.messages.verdict
    c.from_residual-in_err-tell-3.result y is (c.in_err-tell-3.ensures start (i * 5 + 1 + 1) (omega arith) k2)

pub returns-in_err-tell-4 : goal.returns-in_err-tell-4
returns-in_err-tell-4 g c start noted =
    let i = c.args.index in
    let k1 = c.in_ok-tell.ensures start (i * 5) (omega arith) noted in
    let k2 = c.in_ok-tell-2.ensures start (i * 5 + 1) (omega arith) k1 in
    let k3 = c.in_ok-tell-3.ensures start (i * 5 + 1 + 1) (omega arith) k2 in
    let (y, is, same) = err_from_is_err_and c.from_residual-in_err-tell-4.result c.from_residual-in_err-tell-4.ensures.1 in
    notes_lost c.args.entries.now (i * 5 + 5) start (g.S.Sink.state c.tell-4.new.out) c.tell-4.new.messages.block c.tell-4.new.messages.verdict
    c.from_residual-in_err-tell-4.result y is (c.in_err-tell-4.ensures start (i * 5 + 1 + 1 + 1) (omega arith) k3)
