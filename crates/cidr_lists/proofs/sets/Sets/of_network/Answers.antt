use Rattle.cidr_lists.proofs.SetSteps.{network_set}
use Rattle.cidr_lists.proofs.sets.Sets.of_network.Goals as goal

pub returns : goal.returns
returns c =
    network_set c.new-lists.result c.push.new.self c.args.network.now c.of_lists.result c.new-lists.ensures.v4 c.new-lists.ensures.v6
    c.in_ok-push.ensures c.of_lists.ensures
