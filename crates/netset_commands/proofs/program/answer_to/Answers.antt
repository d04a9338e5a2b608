use Rattle.netset_commands.proofs.program.answer_to.Goals as goal

pub returns-in-None-clause-runs : goal.returns-in-None-clause-runs
returns-in-None-clause-runs g c = rw c.in-None.is c.answer_once.ensures.runs

pub returns-in-Some-clause-runs : goal.returns-in-Some-clause-runs
returns-in-Some-clause-runs g c = rw c.in-Some.is (c.answer_into.ensures.runs (g.O.Output.closed c.args.out.now) (g.O.Sink.state c.args.out.now))

pub returns-in-None-clause-leaves : goal.returns-in-None-clause-leaves
returns-in-None-clause-leaves g c = rw c.in-None.is c.answer_once.ensures.leaves

pub returns-in-Some-clause-leaves : goal.returns-in-Some-clause-leaves
returns-in-Some-clause-leaves g c = rw c.in-Some.is c.answer_into.ensures.leaves
