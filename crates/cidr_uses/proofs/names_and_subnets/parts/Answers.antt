use Rattle.cidr.specs.declared.family.Family.TheVariants.{Ipv4}
use Rattle.cidr_uses.proofs.SubnetParts.{parts_of}
use Rattle.cidr_uses.proofs.names_and_subnets.parts.Goals as goal

pub returns : goal.returns
returns c = parts_of Ipv4 32 c.args.len c.args.network.now c.subnets.result c.subnets.ensures.exactly c.subnets.ensures.within
