-- Eight bits for each octet, and then zeros.
use Rattle.cidr.proofs.ShortGrammar.{length-octet_bits, first_of-octets}
use Rattle.cidr.proofs.laws.loose_texts.network_of_octets.Goals as goal

pub returns : goal.returns
returns c = record {
  len = length-octet_bits;
  first = first_of-octets;
}
