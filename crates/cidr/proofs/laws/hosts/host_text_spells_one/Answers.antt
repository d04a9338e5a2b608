-- A text spells one host at most.
use Rattle.cidr.specs.declared.family.Family.TheVariants.{Ipv4, Ipv6}
use Rattle.cidr.proofs.EitherTexts.{one_ip_host}
use Rattle.cidr.proofs.NetworkTexts.{one_host}
use Rattle.cidr.proofs.laws.hosts.host_text_spells_one.Goals as goal

pub returns : goal.returns
returns c = record {
  ipv4 = one_host Ipv4;
  ipv6 = one_host Ipv6;
  ip = one_ip_host;
}
