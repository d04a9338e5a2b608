use Rattle.cidr_sets.proofs.set.NetworkSet.overlaps.Goals as goal

pub returns : goal.returns
returns g c = rw (← c.as_slice.ensures.networks) c.meets.ensures
