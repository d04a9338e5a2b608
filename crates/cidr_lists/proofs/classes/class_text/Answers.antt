use Rattle.std.proofs.Common.{refl}
use Rattle.cidr_lists.proofs.Classed.{class_found, no_class_found}
use Rattle.cidr_lists.proofs.classes.class_text.Goals as goal

pub returns-in-Some-clause-class : goal.returns-in-Some-clause-class
returns-in-Some-clause-class c =
    class_found c.args.address.now c.in-Some.entry.now c.block_text.result.bytes c.entry_text.result.bytes _ c.in-Some.ensures c.block_text.ensures.wide
    c.block_text.ensures.bytes c.entry_text.ensures.bytes
    (rw (
      c.push_str-in-Some-2.ensures.bytes,
      c.push_str-in-Some.ensures.bytes,
      c.push_str.ensures.bytes,
      c.new-text.ensures,
      c.as_str.ensures.value,
      c.as_str-in-Some.ensures.value,
    ) refl)

pub returns-in-None-clause-class : goal.returns-in-None-clause-class
returns-in-None-clause-class c =
    no_class_found c.args.address.now _ c.in-None.ensures (rw (c.push_str-in-None.ensures.bytes, c.new-text.ensures) refl)
