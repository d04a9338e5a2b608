-- A text spells one IPv4 address at most.
use Rattle.cidr.proofs.Ipv4Grammar.{ipv4_grammar}
use Rattle.cidr.proofs.laws.addresses.ipv4_text_spells_one.Goals as goal

pub returns : goal.returns
returns c = ipv4_grammar.one_value
