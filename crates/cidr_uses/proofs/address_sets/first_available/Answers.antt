use Rattle.std.proofs.Common.{map}
use Rattle.std.specs.Option.{option_map}
use Rattle.cidr_uses.proofs.FreeNetworkSets.{first_is_available}
use Rattle.cidr_uses.proofs.address_sets.first_available.Goals as goal

pub returns : goal.returns
returns g c =
    let f = g.C.BitString.bits in
    first_is_available g.C.PoolNetwork.IsNetwork c.args.len (map f c.args.pool.now) (map f c.args.used.now) (map f c.in_ok-free.free)
    c.in_ok-free.ensures.set c.full_networks_lie_in_one.ensures (option_map f c.first_free.result) c.first_free.ensures.first
