use Rattle.cidr_lists.proofs.StyledTexts.{members_pushed}
use Rattle.cidr_lists.proofs.formats.members.Goals as goal

pub returns : goal.returns
returns c =
    members_pushed c.widened-text.result.bytes c.args.network.now c.args.first.now c.args.last.now c.push_str.new.self.bytes c.push_str-2.new.self.bytes
    c.push_str-3.new.self.bytes c.push_str-4.new.self.bytes c.push_str-5.new.self.bytes c.push_str-6.new.self.bytes c.args.len c.widened-text.ensures
    c.push_str.ensures.bytes c.push_str-2.ensures.bytes c.push_str-3.ensures.bytes c.push_str-4.ensures.bytes c.push_str-5.ensures.bytes
    (rw (c.as_str.ensures.value, c.decimal_text.ensures.text, c.from.ensures) at c.push_str-6.ensures.bytes)
