use Rattle.netset_commands.proofs.output.report.report_misuse.Goals as goal

pub returns-clause-says : goal.returns-clause-says
returns-clause-says g c = (c.write_line.result, rw (c.as_str.ensures.value, c.excerpt.ensures.text, c.as_str-2.ensures.value, c.misfit_text.ensures) at c.write_line.ensures)
