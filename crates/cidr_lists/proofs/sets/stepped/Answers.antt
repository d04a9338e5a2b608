use Rattle.cidr_lists.proofs.sets.stepped.Goals as goal

pub returns-in-Union : goal.returns-in-Union
returns-in-Union g c = rw c.in-Union.is c.union.ensures.set

pub returns-in-Difference : goal.returns-in-Difference
returns-in-Difference g c = rw c.in-Difference.is c.difference.ensures.set

pub returns-in-Intersection : goal.returns-in-Intersection
returns-in-Intersection g c = rw c.in-Intersection.is c.intersection.ensures.set
