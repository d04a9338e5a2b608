-- A text spells one network at most.
use Rattle.cidr.specs.declared.family.Family.TheVariants.{Ipv4, Ipv6}
use Rattle.cidr.proofs.EitherTexts.{one_ip_network, one_any_network}
use Rattle.cidr.proofs.NetworkTexts.{one_network}
use Rattle.cidr.proofs.laws.networks.network_text_spells_one.Goals as goal

pub returns : goal.returns
returns c = record {
  ipv4 = one_network Ipv4;
  ipv6 = one_network Ipv6;
  ip = one_ip_network;
  any = one_any_network;
}
