use Rattle.cidr_sets.proofs.set.NetworkSet.complement_in.Goals as goal

pub returns-clause-set : goal.returns-clause-set
returns-clause-set g c = rw (← c.as_slice.ensures.networks) c.in_ok-write_complement.ensures.set
