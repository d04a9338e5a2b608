-- A short text spells one network at most.
use Rattle.cidr.proofs.ShortGrammar.{one_short_text, one_short_ip}
use Rattle.cidr.proofs.laws.loose_texts.short_text_spells_one.Goals as goal

pub returns : goal.returns
returns c = record {
  ipv4 = one_short_text;
  ip = one_short_ip;
}
