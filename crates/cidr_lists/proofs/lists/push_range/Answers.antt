use Rattle.cidr_lists.proofs.lists.push_range.Goals as goal

pub returns : goal.returns
returns g c =
    (c.in_ok-range.range, c.in_ok-range.ensures.set, rw c.as_slice.ensures.networks at c.in_ok-extend_from_slice.ensures.items)
