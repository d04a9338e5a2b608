use Rattle.cidr_uses.proofs.Pools.{pool_after, given_once}
use Rattle.cidr_uses.proofs.address_pool.AddressPool.take.Goals as goal

pub invariant_of-self : goal.invariant_of-self
invariant_of-self c =
    pool_after c.self.inside.network c.self.inside.free c.next.new.self c.next.result c.next.ensures.steps c.self.invariant

pub returns-clause-once : goal.returns-clause-once
returns-clause-once c =
    given_once c.self.inside.network c.self.inside.free c.next.new.self c.next.result c.next.ensures.steps c.self.invariant
