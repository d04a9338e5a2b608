-- The same texts are printed exactly of networks with the same addresses.
use Rattle.std.proofs.Common.{◌∙◌}
use Rattle.cidr_uses.proofs.Agreements.{texts_tell, printed_alike}
use Rattle.cidr_uses.proofs.consequences.same_addresses.Goals as goal

pub returns : goal.returns
returns c =
    let here = c.as_str.ensures.value ∙ c.to_text.ensures.text in
    let there = c.as_str-2.ensures.value ∙ c.to_text-2.ensures.text in
    record {
      one = c.in-Ok.network;
      other = c.in-Ok-parse.network;
      one_spelled = c.in-Ok.ensures.value;
      other_spelled = c.in-Ok-parse.ensures.value;
      exactly = rw c.eq.ensures (texts_tell _ _ _ _ c.in-Ok.network c.in-Ok-parse.network c.agree-same.result
          c.agree-same.ensures.all c.agree-same.ensures.none c.as_str.result.now c.as_str-2.result.now here there);
      printed = printed_alike _ _ _ _ c.in-Ok.network c.in-Ok-parse.network c.agree-same.result c.agree-same.ensures.all c.agree-same.ensures.none;
    }
