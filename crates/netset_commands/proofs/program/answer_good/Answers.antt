use Rattle.netset_commands.proofs.program.answer_good.Goals as goal

pub returns-clause-runs : goal.returns-clause-runs
returns-clause-runs g c folder = (
  c.list_form.result,
  c.report.result,
  c.list_form.ensures,
  (c.answer-answered.result, c.answer-answered.ensures.answers, c.answer-answered.ensures.cause, rw c.is_closed.ensures at c.report.ensures.says, c.report.ensures.status),
  c.max.ensures,
)
