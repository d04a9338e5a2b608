use Rattle.cidr_lists.proofs.Described.{line_of}
use Rattle.cidr_lists.proofs.descriptions.mask_line.Goals as goal

pub returns : goal.returns
returns c =
    rw (
      c.push_str-3.ensures.bytes,
      c.push_str-2.ensures.bytes,
      c.push_str.ensures.bytes,
      c.new-text.ensures,
      c.as_str.ensures.value,
      c.to_text.ensures.text,
      c.first_address.ensures,
      c.as_str-2.ensures.value,
      c.mask_pair.ensures,
    ) (line_of c.args.network.now)
