use Rattle.cidr_uses.proofs.route_hits.clear_hits.Goals as goal

pub returns-in-Some-clause-cleared : goal.returns-in-Some-clause-cleared
returns-in-Some-clause-cleared g c = λ _. (rw c.in-Some.is at (c.get_mut.follows.holds 0)).rows
