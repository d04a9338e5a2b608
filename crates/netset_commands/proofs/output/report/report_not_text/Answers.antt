use Rattle.netset_commands.proofs.output.report.report_not_text.Goals as goal

pub returns-clause-says : goal.returns-clause-says
returns-clause-says g c = (c.write_line.result, c.write_line.ensures)
