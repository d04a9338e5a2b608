-- A strict text is a loose text.
use Rattle.cidr.proofs.LooseGrammar.{strict_is_loose, strict_ip_is_loose}
use Rattle.cidr.proofs.laws.loose_texts.strict_text_is_loose.Goals as goal

pub returns : goal.returns
returns c = record {
  ipv4 = strict_is_loose;
  ip = strict_ip_is_loose;
}
