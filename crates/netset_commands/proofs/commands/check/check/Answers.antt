use Rattle.std.proofs.Common.{map, sym}
use Rattle.netset_commands.proofs.Checked.{check_answered, check_lost}
use Rattle.netset_commands.proofs.commands.check.check.Goals as goal

pub answer-requires : goal.answer-requires
answer-requires g c = rw (c.as_slice-2.ensures.value, c.as_slice-3.ensures.value)
    (rw c.as_slice.ensures.value at (rw (sym c.in_ok-near.ensures.made) at c.near_lines-near.ensures))

pub returns-in-Ok-clause-answers : goal.returns-in-Ok-clause-answers
returns-in-Ok-clause-answers g c =
    check_answered (g.F.Sources.contents c.args.sources.now) (map (λ file. file.now) c.args.files.now) c.in_ok-entries.entries.items (g.O.Sink.state c.args.out.now)
    (g.O.Sink.state c.answer.new.out) c.in-Ok.verdict c.in_ok-entries.ensures.reads (rw c.as_slice-2.ensures.value at c.in-Ok.ensures)

pub returns-clause-answers : goal.returns-clause-answers
returns-clause-answers g c =
    check_lost (g.F.Sources.contents c.args.sources.now) (map (λ file. file.now) c.args.files.now) c.in_ok-entries.entries.items (g.O.Sink.state c.args.out.now)
    (g.O.Sink.state c.answer.new.out) _ c.in_ok-entries.ensures.reads (rw c.as_slice-2.ensures.value at c.in-Err.ensures)
