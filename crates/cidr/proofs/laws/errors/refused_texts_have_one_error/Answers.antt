-- One error of each type.
use Rattle.cidr.specs.texts.Messages.{ipv4_error, ipv6_error}
use Rattle.cidr.specs.declared.family.Family.TheVariants.{Ipv4, Ipv6}
use Rattle.cidr.proofs.RefusedTexts.{one_refusal, one_ip_refusal}
use Rattle.cidr.proofs.laws.errors.refused_texts_have_one_error.Goals as goal

pub returns : goal.returns
returns c = record {
  ipv4 = λ text. one_refusal Ipv4 text ipv4_error;
  ipv6 = λ text. one_refusal Ipv6 text ipv6_error;
  ip = one_ip_refusal;
  ipv4_host = λ text d e h k. one_refusal Ipv4 text ipv4_error d e h.0 k.0;
  ipv6_host = λ text d e h k. one_refusal Ipv6 text ipv6_error d e h.0 k.0;
  ip_host = λ text d e h k. one_ip_refusal text d e h.0 k.0;
}
