use Rattle.cidr_lists.proofs.near.put_half.Goals as goal

pub returns-in-Some : goal.returns-in-Some
returns-in-Some c = rw c.in-Some.is (c.kept-first.result, c.kept-first.ensures, c.put.ensures)
