-- A strict text is a short text.
use Rattle.cidr.proofs.ShortGrammar.{strict_is_short, strict_ip_is_short}
use Rattle.cidr.proofs.laws.loose_texts.strict_text_is_short.Goals as goal

pub returns : goal.returns
returns c = record {
  ipv4 = strict_is_short;
  ip = strict_ip_is_short;
}
