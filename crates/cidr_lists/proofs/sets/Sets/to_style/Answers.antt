use Rattle.cidr_lists.proofs.sets.Sets.to_style.Goals as goal

pub returns : goal.returns
returns c =
    let first = rw (c.as_slice.ensures.networks, c.new-text.ensures.items, c.layout_of-v4.ensures) at c.in_ok-push_layout.ensures in
    rw (c.as_slice-2.ensures.networks, first, c.layout_of-v6.ensures) at c.in_ok-push_layout-2.ensures
