use Rattle.cidr_lists.proofs.near.put_first.Goals as goal

pub returns : goal.returns
returns c = (c.kept-outer.result, c.kept-outer.ensures, c.put.ensures)
