-- The walk over a network as addresses has exactly those of the network.
use Rattle.std.proofs.Common.{ap, ◌∙◌}
use Rattle.cidr.specs.declared.family.Family.TheVariants.{Ipv4}
use Rattle.cidr.specs.model.Walk.{addresses_of}
use Rattle.cidr_uses.proofs.Agreements.{walk_of_network}
use Rattle.cidr_uses.proofs.consequences.walk_of_text.Goals as goal

pub returns-in-Ok : goal.returns-in-Ok
returns-in-Ok c =
    record {
      network = c.in-Ok.network;
      spelled = c.in-Ok.ensures.value;
      exactly = walk_of_network Ipv4 c.in-Ok.network c.addresses.result (c.addresses.ensures ∙ ap addresses_of c.iter.ensures.walk)
          c.iter.ensures.exactly;
    }
