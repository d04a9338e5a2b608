-- Parsing around a strict reader of addresses of either family.
use Rattle.cidr.proofs.EitherParsing.{strictly_read}
use Rattle.cidr.proofs.StrictParsing.{ip_host_parsed}
use Rattle.cidr.proofs.laws.parsers.parsing_around_strict_ip_is_strict.Goals as goal

pub returns : goal.returns
returns g c = record {
  network = λ known. strictly_read _ known;
  host = λ known. ip_host_parsed _ known;
}
