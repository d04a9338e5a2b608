use Rattle.cidr_sets.proofs.set.NetworkSet.intersection.Goals as goal

pub returns-clause-set : goal.returns-clause-set
returns-clause-set g c = rw (← c.as_slice-these.ensures.networks, ← c.as_slice-those.ensures.networks) c.write_shared.ensures.set
