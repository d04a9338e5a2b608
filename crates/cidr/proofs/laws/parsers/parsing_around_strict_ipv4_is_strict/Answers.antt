-- Parsing around a strict reader of IPv4 addresses.
use Rattle.cidr.specs.declared.family.Family.TheVariants.{Ipv4}
use Rattle.cidr.proofs.StrictParsing.{network_parsed, host_parsed}
use Rattle.cidr.proofs.laws.parsers.parsing_around_strict_ipv4_is_strict.Goals as goal

pub returns : goal.returns
returns g c = record {
  network = λ known. network_parsed Ipv4 _ known;
  host = λ known. host_parsed Ipv4 _ known;
}
