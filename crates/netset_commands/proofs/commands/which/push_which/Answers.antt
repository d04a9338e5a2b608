use Rattle.std.proofs.Common.{sym, ◌∙◌}
use Rattle.netset_commands.proofs.AddressLines.{line_skipped, line_told}
use Rattle.netset_commands.proofs.commands.which.push_which.Goals as goal

pub returns-then-not-has_address : goal.returns-then-not-has_address
returns-then-not-has_address g c =
    line_skipped c.args.address.now c.args.entry.now (g.S.Sink.state c.args.out.now) c.args.block.now (sym c.has_address.ensures ∙ c.if-not-has_address.true)

pub returns : goal.returns
returns g c =
    line_told c.args.address.now c.args.entry.now (g.S.Sink.state c.args.out.now) (g.S.Sink.state c.push_message.new.out) c.args.block.now c.push_message.new.self
    c.push_message.result (sym c.has_address.ensures ∙ c.if-not-has_address.false)
    (rw (c.found_parts-parts.ensures, c.as_str.ensures.value, c.decimal_text-digits.ensures.text, c.from.ensures, c.as_str-2.ensures.value, c.to_text-network.ensures.text, c.network.ensures) at c.push_message.ensures)
