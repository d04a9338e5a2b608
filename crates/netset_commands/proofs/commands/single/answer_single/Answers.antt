use Rattle.netset_commands.proofs.commands.single.answer_single.Goals as goal

pub returns-in-Show : goal.returns-in-Show
returns-in-Show g c = rw c.in-Show.is c.show.ensures

pub returns-in-Nth : goal.returns-in-Nth
returns-in-Nth g c = rw c.in-Nth.is c.nth.ensures
