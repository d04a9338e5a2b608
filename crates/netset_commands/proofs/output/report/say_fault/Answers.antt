use Rattle.netset_commands.proofs.output.report.say_fault.Goals as goal

pub returns : goal.returns
returns g c start text said =
    rw (c.fault_parts-parts.ensures, c.as_str.ensures.value, c.decimal_text-digits.ensures.text, c.from.ensures, c.as_str-2.ensures.value, c.message-message.ensures) at (c.say_message.ensures start text said)
