use Rattle.cidr_uses.proofs.Pools.{above_given}
use Rattle.cidr_uses.proofs.address_pool.two_addresses.Goals as goal

pub returns-clause-above : goal.returns-clause-above
returns-clause-above c =
    above_given c.in_ok-first.first c.in_ok-second.second _ _ c.in_ok-first.ensures.once c.in_ok-second.ensures.given
