-- The walk of a network has exactly the addresses that begin with its bits.
use Rattle.std.proofs.Common.{arith}
use Rattle.cidr.specs.model.Network.{width_of}
use Rattle.cidr.proofs.NetworkWalks.{network_walk-exact}
use Rattle.cidr.proofs.cidr.network.Network.ends.Goals as goal

pub returns-clause-exactly : goal.returns-clause-exactly
returns-clause-exactly g c a = network_walk-exact (width_of g.A.AddressBits.FAMILY) c.args.self.now a (omega arith)
