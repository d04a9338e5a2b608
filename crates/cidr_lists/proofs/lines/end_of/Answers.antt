use Rattle.cidr_lists.proofs.lines.end_of.Goals as goal

pub returns-in-Ok : goal.returns-in-Ok
returns-in-Ok c = (c.trim_ascii-end.result.now, c.trim_ascii-end.ensures.value, c.in-Ok.ensures.value)

pub returns-in-Err : goal.returns-in-Err
returns-in-Err c = (c.trim_ascii-end.result.now, c.trim_ascii-end.ensures.value, (c.in-Err.ensures.value.1, c.in-Err.ensures.value.0, c.new.ensures))
