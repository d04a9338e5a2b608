use Rattle.netset_commands.proofs.commands.acl.acl.Goals as goal

pub returns-in-Permitted-clause-answers : goal.returns-in-Permitted-clause-answers
returns-in-Permitted-clause-answers g c = rw c.in-Permitted.is c.permitted.ensures.answers

pub returns-in-Permitted-clause-cause : goal.returns-in-Permitted-clause-cause
returns-in-Permitted-clause-cause g c = c.permitted.ensures.cause

pub returns-in-Shadowed-clause-answers : goal.returns-in-Shadowed-clause-answers
returns-in-Shadowed-clause-answers g c = rw c.in-Shadowed.is c.shadowed.ensures.answers

pub returns-in-Shadowed-clause-cause : goal.returns-in-Shadowed-clause-cause
returns-in-Shadowed-clause-cause g c = c.shadowed.ensures.cause

pub returns-in-Compared-clause-answers : goal.returns-in-Compared-clause-answers
returns-in-Compared-clause-answers g c = rw c.in-Compared.is c.compared.ensures.answers

pub returns-in-Compared-clause-cause : goal.returns-in-Compared-clause-cause
returns-in-Compared-clause-cause g c = c.compared.ensures.cause
