use Rattle.netset_commands.proofs.commands.describe.write_length.Goals as goal

pub returns : goal.returns
returns g c = rw (c.as_str.ensures.value, c.decimal_text.ensures.text, c.from.ensures) at c.write_line.ensures
