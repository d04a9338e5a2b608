-- The line that is written is that of the error.
use Rattle.cidr_tool.proofs.report.say_refused.Goals as goal

pub returns : goal.returns
returns g c = rw (c.as_str.ensures.value, c.refused_line.ensures) at c.say.ensures
