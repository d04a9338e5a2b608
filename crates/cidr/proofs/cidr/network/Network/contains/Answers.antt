-- An address is in the network where both have the same first bits.
use Rattle.cidr.specs.model.Network.{width_of}
use Rattle.cidr.proofs.Holding.{begins_test}
use Rattle.cidr.proofs.cidr.network.Network.contains.Goals as goal

pub returns : goal.returns
returns g c =
    rw (← c.self.view_is, c.shares.ensures) (begins_test (width_of g.A.AddressBits.FAMILY) _ _ _ c.self.invariant.0 c.self.invariant.1)
