use Rattle.cidr_tool.proofs.Words.{lines_appended}
use Rattle.cidr_tool.proofs.run.shown_network.Goals as goal

pub returns : goal.returns
returns c =
    rw (
      c.push_line-6.ensures.line,
      c.push_line-5.ensures.line,
      c.push_line-4.ensures.line,
      c.push_line-3.ensures.line,
      c.push_line-2.ensures.line,
      c.push_line.ensures.line,
      c.new-shown.ensures,
      c.as_str.ensures.value,
      c.as_str-2.ensures.value,
      c.as_str-3.ensures.value,
      c.to_text.ensures.text,
      c.to_text-2.ensures.text,
      c.to_text-3.ensures.text,
      c.first_address.ensures,
      c.last_address.ensures,
      c.mask.ensures,
      c.as_str-4.ensures.value,
      c.decimal_text.ensures.text,
      c.from.ensures,
      c.network_length.ensures.value,
      c.variant_name.ensures.name,
      c.family.ensures,
    ) (lines_appended _ _ _ _ _ _)
