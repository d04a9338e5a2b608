use Rattle.cidr_lists.proofs.Classed.{joined}
use Rattle.cidr_lists.proofs.Described.{host_mask_text, mask_text}
use Rattle.cidr_lists.proofs.descriptions.mask_pair.Goals as goal

pub returns : goal.returns
returns c =
    rw (
      c.push_str-4.ensures.bytes,
      c.push_str-3.ensures.bytes,
      c.push_str-2.ensures.bytes,
      c.push_str.ensures.bytes,
      c.new-text.ensures,
      c.as_str.ensures.value,
      c.to_text-mask.ensures.text,
      c.mask.ensures,
      mask_text c.args.network.now,
      c.as_str-2.ensures.value,
      c.to_text-host_mask.ensures.text,
      host_mask_text c.args.network.now c.host_mask.result c.host_mask.ensures.value c.host_mask.ensures.family,
    ) (joined _ _)
