-- What stands between a network and one inside it.
use Rattle.cidr.specs.either.IpNetwork.{network_bits}
use Rattle.cidr_uses.proofs.nesting.inside_ip.Goals as goal

pub returns : goal.returns
returns c = c.contains_cidr.ensures.begins.1
    ((c.networks_inside_are_consecutive.ensures (network_bits c.args.a.now) (network_bits c.args.last.now) c.requires.holds).1 (network_bits c.args.b.now) c.requires.from c.requires.to)
