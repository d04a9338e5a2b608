use Rattle.cidr_io.proofs.writing.say.Goals as goal

pub returns : goal.returns
returns g c = (c.write_text.result, c.write_text.ensures)
