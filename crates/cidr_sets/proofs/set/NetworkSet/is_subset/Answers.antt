use Rattle.cidr_sets.proofs.set.NetworkSet.is_subset.Goals as goal

pub returns : goal.returns
returns g c = rw (← c.as_slice.ensures.networks) c.contains_all.ensures
