use Rattle.std.proofs.Common.{arith, inl, inr, refl}
use Rattle.netset_commands.specs.declared.errors.CommandError.TheVariants as error
use Rattle.netset_commands.proofs.Consequences.{answers_typed}
use Rattle.netset_commands.proofs.Left.{no_answer}
use Rattle.netset_commands.proofs.Running.{run_arguments}
use Rattle.netset_commands.proofs.program.program.Goals as goal

pub returns-in-Ok-clause-runs : goal.returns-in-Ok-clause-runs
returns-in-Ok-clause-runs g c = run_arguments _ _ _ _ _ _ _ _ _ _ c.in-Ok.ensures (rw c.as_slice.ensures.value at c.answer_texts.ensures.runs)

pub returns-in-Some-clause-runs : goal.returns-in-Some-clause-runs
returns-in-Some-clause-runs g c =
    inr (inl (
      c.in-Some.shown.now,
      c.in-Some.ensures (g.A.Arguments.told c.args.arguments.now) (g.M.Memory.refused c.texts_of.new.memory) c.in-Err.ensures,
      (refl, c.report_not_text.ensures.says, c.report_not_text.ensures.status),
    ))

pub returns-in-None-clause-runs : goal.returns-in-None-clause-runs
returns-in-None-clause-runs g c =
    inr (inr (
      c.in-None.ensures (g.A.Arguments.told c.args.arguments.now) (g.M.Memory.refused c.texts_of.new.memory) c.in-Err.ensures,
      (refl, c.report.ensures.says, c.report.ensures.status),
    ))

pub returns-in-Some-clause-leaves : goal.returns-in-Some-clause-leaves
returns-in-Some-clause-leaves g c = inr (omega (arith, c.report_not_text.ensures.status), refl)

pub returns-in-None-clause-leaves : goal.returns-in-None-clause-leaves
returns-in-None-clause-leaves g c = inr (no_answer error.NoMemory _ c.report.ensures.status, refl)

pub returns-in-Ok-clause-answers : goal.returns-in-Ok-clause-answers
returns-in-Ok-clause-answers g c = answers_typed _ _ _ _ _ _ _ _ _ (returns-in-Ok-clause-runs g c)

pub returns-in-Some-clause-answers : goal.returns-in-Some-clause-answers
returns-in-Some-clause-answers g c = answers_typed _ _ _ _ _ _ _ _ _ (returns-in-Some-clause-runs g c)

pub returns-in-None-clause-answers : goal.returns-in-None-clause-answers
returns-in-None-clause-answers g c = answers_typed _ _ _ _ _ _ _ _ _ (returns-in-None-clause-runs g c)
