-- One error of each type.
use Rattle.cidr.specs.bytes.CompactRefusal.{Only, Both}
use Rattle.cidr.specs.declared.family.Family.TheVariants.{Ipv4, Ipv6}
use Rattle.cidr.proofs.CompactErrors.{one_error}
use Rattle.cidr.proofs.laws.errors.compact_bytes_have_one_error.Goals as goal

pub returns : goal.returns
returns c = record {
  ipv4 = one_error (Only Ipv4);
  ipv6 = one_error (Only Ipv6);
  ip = one_error Both;
  any = λ input d e h k. one_error Both input d e h.0 k.0;
  ipv4_host = λ input d e h k. one_error (Only Ipv4) input d e h.0 k.0;
  ipv6_host = λ input d e h k. one_error (Only Ipv6) input d e h.0 k.0;
  ip_host = λ input d e h k. one_error Both input d e h.0 k.0;
}
