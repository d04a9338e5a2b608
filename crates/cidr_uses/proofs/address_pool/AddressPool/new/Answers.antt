use Rattle.std.proofs.Common.{◌≤◌, length, arith}
use Rattle.cidr.specs.model.Walk.{network_walk}
use Rattle.cidr.specs.declared.family.Family.TheVariants.{Ipv4}
use Rattle.cidr_uses.proofs.Pools.{addresses_left, is_pool}
use Rattle.cidr_uses.proofs.address_pool.AddressPool.new.Goals as goal

pub invariant_of-result : goal.invariant_of-result
invariant_of-result c =
    let fits : length c.args.network ≤ 32 = omega arith in
    rw (c.addresses.ensures, c.iter.ensures.walk) (is_pool c.args.network fits c.iter.ensures.exactly c.walk_ascends.ensures)

pub returns-clause-free : goal.returns-clause-free
returns-clause-free c =
    rw (c.addresses.ensures, c.iter.ensures.walk) (addresses_left Ipv4 (length c.args.network) (network_walk Ipv4 c.args.network))

pub returns-clause-exactly : goal.returns-clause-exactly
returns-clause-exactly c =
    rw (c.addresses.ensures, c.iter.ensures.walk, addresses_left Ipv4 (length c.args.network) (network_walk Ipv4 c.args.network)) c.iter.ensures.exactly
