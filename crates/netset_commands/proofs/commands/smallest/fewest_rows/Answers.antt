use Rattle.netset_commands.proofs.commands.smallest.fewest_rows.Goals as goal

pub returns-then-holes : goal.returns-then-holes
returns-then-holes g c = rw c.if-holes.true c.holed_rows.ensures

pub returns-else-holes : goal.returns-else-holes
returns-else-holes g c = rw c.if-holes.false c.plain_rows.ensures
