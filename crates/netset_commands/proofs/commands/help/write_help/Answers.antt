use Rattle.netset_commands.proofs.commands.help.write_help.Goals as goal

pub returns-in-Some : goal.returns-in-Some
returns-in-Some g c = rw c.in-Some.is (rw (c.about_of.ensures, c.note_of.ensures, c.note_of-in-Some.ensures, c.note_of-in-Some-2.ensures, c.note_of-in-Some-3.ensures, c.note_of-in-Some-4.ensures, c.note_of-in-Some-5.ensures, c.note_of-in-Some-6.ensures) at c.write_line.ensures)

pub returns-in-None : goal.returns-in-None
returns-in-None g c = rw c.in-None.is c.write_page.ensures
