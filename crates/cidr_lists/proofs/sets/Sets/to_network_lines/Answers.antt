use Rattle.cidr_lists.proofs.sets.Sets.to_network_lines.Goals as goal

pub returns : goal.returns
returns c =
    let first = rw (c.as_slice.ensures.networks, c.new-text.ensures.items) at c.in_ok-push_networks.ensures in
    rw (c.as_slice-2.ensures.networks, first) at c.in_ok-push_networks-2.ensures
