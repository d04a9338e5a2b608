-- A text spells one IPv6 address at most.
use Rattle.cidr.proofs.Ipv6Grammar.{ipv6_grammar}
use Rattle.cidr.proofs.laws.addresses.ipv6_text_spells_one.Goals as goal

pub returns : goal.returns
returns c = ipv6_grammar.one_value
