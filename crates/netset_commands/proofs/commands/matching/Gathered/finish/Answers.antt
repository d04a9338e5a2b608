use Rattle.netset_commands.proofs.commands.matching.Gathered.finish.Goals as goal

pub returns : goal.returns
returns g c = (c.verdict_of-verdict.result, c.write_rest.result, c.verdict_of-verdict.ensures, c.write_rest.ensures, c.by_output.ensures)
