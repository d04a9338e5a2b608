-- Any calls at both ends of the walk of a string's network.
use Rattle.cidr.specs.model.Walk.{addresses_of, network_hosts}
use Rattle.cidr.specs.either.IpNetwork.{network_family, network_prefix}
use Rattle.cidr_uses.proofs.WalkCalls.{within, all_come}
use Rattle.cidr_uses.proofs.walk_calls.drive_string.Goals as goal

pub returns : goal.returns
returns c =
    let n = c.in-Ok.network in
    let family = network_family n in
    let p = network_prefix n in
    let ends = c.args.ends.now in
    let items = addresses_of (network_hosts family p) in
    let w = c.walk.ensures in
    record {
      network = n;
      spelled = c.in-Ok.ensures.value;
      within = within family p ends _ w.given w.walk.0 w.walk.1 (c.calls_return_only_items.ensures items ends);
      once = w.once.0;
      all = λ long. all_come family p ends _ w.given w.walk.0 w.walk.1 (w.once.1 long);
    }
