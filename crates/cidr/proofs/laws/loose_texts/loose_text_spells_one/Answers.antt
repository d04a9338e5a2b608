-- A loose text spells one address at most.
use Rattle.cidr.proofs.LooseGrammar.{one_loose_text, one_loose_ip}
use Rattle.cidr.proofs.laws.loose_texts.loose_text_spells_one.Goals as goal

pub returns : goal.returns
returns c = record {
  ipv4 = one_loose_text;
  ip = one_loose_ip;
}
