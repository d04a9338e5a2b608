use Rattle.std.proofs.Common.{refl}
use Rattle.cidr_lists.proofs.Classed.{line_of_class}
use Rattle.cidr_lists.proofs.classes.class_line.Goals as goal

pub returns : goal.returns
returns c =
    line_of_class c.args.address.now c.class_text-class.result.0.bytes _ c.class_text-class.result.1 c.class_text-class.ensures.class
    (rw (
      c.push_str-4.ensures.bytes,
      c.push_str-3.ensures.bytes,
      c.push_str-2.ensures.bytes,
      c.push_str.ensures.bytes,
      c.new-line.ensures,
      c.as_str.ensures.value,
      c.to_text.ensures.text,
      c.as_str-2.ensures.value,
    ) refl)
