-- One result of each type.
use Rattle.cidr.specs.either.IpText.{IsIpNetworkText, IsAnyNetworkText, IsIpHostText, IsIpRefused, IsIpHostRefused}
use Rattle.cidr.specs.texts.HostText.{IsHostText, IsHostRefused}
use Rattle.cidr.specs.texts.Messages.{ipv4_error, ipv6_error}
use Rattle.cidr.specs.texts.NetworkText.{IsNetworkText}
use Rattle.cidr.specs.texts.Refusal.{IsRefused}
use Rattle.cidr.specs.declared.family.Family.TheVariants.{Ipv4, Ipv6}
use Rattle.cidr.proofs.EitherTexts.{one_ip_network, one_any_network, one_ip_host}
use Rattle.cidr.proofs.NetworkTexts.{one_network, one_host}
use Rattle.cidr.proofs.RefusedTexts.{one_refusal, one_ip_refusal, one_result}
use Rattle.cidr.proofs.laws.parsers.reading_gives_one_result.Goals as goal

pub returns : goal.returns
returns c = record {
  ipv4 = one_result (IsNetworkText Ipv4) (IsRefused Ipv4 ipv4_error) (one_network Ipv4) (λ text. one_refusal Ipv4 text ipv4_error);
  ipv6 = one_result (IsNetworkText Ipv6) (IsRefused Ipv6 ipv6_error) (one_network Ipv6) (λ text. one_refusal Ipv6 text ipv6_error);
  ip = one_result IsIpNetworkText IsIpRefused one_ip_network one_ip_refusal;
  any = one_result IsAnyNetworkText IsIpRefused one_any_network one_ip_refusal;
  ipv4_host = one_result (IsHostText Ipv4) (IsHostRefused Ipv4 ipv4_error) (one_host Ipv4) (λ text d e h k. one_refusal Ipv4 text ipv4_error d e h.0 k.0);
  ipv6_host = one_result (IsHostText Ipv6) (IsHostRefused Ipv6 ipv6_error) (one_host Ipv6) (λ text d e h k. one_refusal Ipv6 text ipv6_error d e h.0 k.0);
  ip_host = one_result IsIpHostText IsIpHostRefused one_ip_host (λ text d e h k. one_ip_refusal text d e h.0 k.0);
}
