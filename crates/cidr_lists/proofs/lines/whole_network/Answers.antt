use Rattle.cidr_lists.proofs.lines.whole_network.Goals as goal

pub returns-in-Ok-read_network : goal.returns-in-Ok-read_network
returns-in-Ok-read_network c = rw (c.in-Ok.ensures.cases.0, c.without_masks.ensures) at c.in-Ok-read_network.ensures
