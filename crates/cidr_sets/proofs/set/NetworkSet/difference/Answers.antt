use Rattle.cidr_sets.proofs.set.NetworkSet.difference.Goals as goal

pub returns-clause-set : goal.returns-clause-set
returns-clause-set g c = rw (← c.as_slice.ensures.networks, ← c.as_slice-2.ensures.networks) c.in_ok-write_rests.ensures.set
