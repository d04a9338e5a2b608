use Rattle.std.proofs.Common.{codes, inl, refl}
use Rattle.std.proofs.lemmas.Result.{err_from_is_err_and}
use Rattle.netset_commands.specs.Rows.{kept}
use Rattle.netset_commands.specs.Causes.{FileFails}
use Rattle.netset_commands.proofs.FewestTold.{fewest_answered, fewest_cause, hole_refused, not_refused}
use Rattle.netset_commands.proofs.commands.smallest.smallest.Goals as goal

pub returns-in_err-rows-clause-answers : goal.returns-in_err-rows-clause-answers
returns-in_err-rows-clause-answers g c =
    let (y, is, same) = err_from_is_err_and c.from_residual.result c.from_residual.ensures.1 in
    rw (is, same) (inl (refl, inl c.in_err-rows.ensures.reads))

pub returns-then-is_refused-clause-answers : goal.returns-then-is_refused-clause-answers
returns-then-is_refused-clause-answers g c =
    let both = c.is_refused.ensures.0 c.if-is_refused.true in
    hole_refused (g.F.Sources.contents c.args.sources.now) c.args.holes c.args.form c.args.table c.in_ok-rows.rows (g.O.Sink.state c.args.out.now)
    c.in_ok-rows.ensures.reads both.0 both.1

pub returns-clause-answers : goal.returns-clause-answers
returns-clause-answers g c =
    fewest_answered (g.F.Sources.contents c.args.sources.now) c.args.holes c.args.form c.args.table.now c.in_ok-rows.rows _ (g.O.Sink.state c.args.out.now)
    (g.O.Sink.state c.tell_fewest.new.out) c.tell_fewest.result c.in_ok-rows.ensures.reads
    (not_refused c.args.holes (kept c.in_ok-rows.rows) (codes "-") c.is_refused.result c.is_refused.ensures c.if-is_refused.false) c.tell_fewest.ensures

pub returns-clause-cause : goal.returns-clause-cause
returns-clause-cause g c =
    fewest_cause (FileFails (g.F.Sources.contents c.args.sources.now) (g.F.Sources.reasons c.args.sources.now)) c.args.holes _ _ _ _ c.tell_fewest.result c.tell_fewest.ensures
