-- What is printed of an IPv6 address is the canonical text.
use Rattle.cidr.proofs.Ipv6Printing.{IsCanonicalText-ipv6_text, one_canonical}
use Rattle.cidr.proofs.laws.addresses.printed_ipv6_text_is_canonical.Goals as goal

pub returns : goal.returns
returns c = record { canonical = IsCanonicalText-ipv6_text; only = one_canonical }
