use Rattle.std.proofs.Common.{codes, decimal}
use Rattle.cidr_io.specs.Shown.{shown}
use Rattle.netset_commands.proofs.Checked.{note_collected, place_collected}
use Rattle.netset_commands.proofs.commands.check.push_note.Goals as goal

pub returns-in-HostBits : goal.returns-in-HostBits
returns-in-HostBits g c =
    rw c.in-HostBits.is (note_collected (g.S.Sink.state c.args.out.now) (g.S.Sink.state c.push_message.new.out) c.args.block.now c.push_message.new.self
    c.push_message.result (shown c.args.note.now.place.file.now) (decimal c.args.note.now.place.number) _
    (rw (c.found_parts-parts.ensures, c.as_str-number.ensures.value, c.decimal_text-digits.ensures.text, c.from.ensures) at c.push_message.ensures))

pub returns-in-NotCanonical : goal.returns-in-NotCanonical
returns-in-NotCanonical g c =
    rw c.in-NotCanonical.is (note_collected (g.S.Sink.state c.args.out.now) (g.S.Sink.state c.push_message-in-NotCanonical.new.out) c.args.block.now
    c.push_message-in-NotCanonical.new.self c.push_message-in-NotCanonical.result (shown c.args.note.now.place.file.now) (decimal c.args.note.now.place.number) _
    (rw (c.found_parts-parts-in-NotCanonical.ensures, c.as_str-number.ensures.value, c.decimal_text-digits.ensures.text, c.from.ensures, c.as_str.ensures.value, c.to_text-text.ensures.text)
    at c.push_message-in-NotCanonical.ensures))

pub returns-in-Repeats : goal.returns-in-Repeats
returns-in-Repeats g c =
    rw c.in-Repeats.is (place_collected (g.S.Sink.state c.args.out.now) (g.S.Sink.state c.push_message-in-Repeats.new.out) c.args.block.now
    c.push_message-in-Repeats.new.self c.push_message-in-Repeats.result (shown c.args.note.now.place.file.now) (decimal c.args.note.now.place.number)
    (codes ": repeats ") (shown c.in-Repeats.place.file.now) (decimal c.in-Repeats.place.number) _
    (rw (c.placed_parts-parts.ensures, c.as_str-number.ensures.value, c.decimal_text-digits.ensures.text, c.from.ensures, c.as_str-in-Repeats.ensures.value, c.decimal_text-line.ensures.text, c.from-in-Repeats.ensures) at c.push_message-in-Repeats.ensures))

pub returns-in-Mergeable : goal.returns-in-Mergeable
returns-in-Mergeable g c =
    rw c.in-Mergeable.is (place_collected (g.S.Sink.state c.args.out.now) (g.S.Sink.state c.push_message-in-Mergeable.new.out) c.args.block.now
    c.push_message-in-Mergeable.new.self c.push_message-in-Mergeable.result (shown c.args.note.now.place.file.now) (decimal c.args.note.now.place.number)
    (codes ": mergeable with ") (shown c.in-Mergeable.place.file.now) (decimal c.in-Mergeable.place.number) _
    (rw (c.placed_parts-parts-in-Mergeable.ensures, c.as_str-number.ensures.value, c.decimal_text-digits.ensures.text, c.from.ensures, c.as_str-in-Mergeable.ensures.value, c.decimal_text-line-in-Mergeable.ensures.text, c.from-in-Mergeable.ensures) at c.push_message-in-Mergeable.ensures))
