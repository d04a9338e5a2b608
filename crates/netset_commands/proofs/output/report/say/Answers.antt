use Rattle.netset_commands.proofs.output.report.say.Goals as goal

pub returns-in-Line : goal.returns-in-Line
returns-in-Line g c =
    rw c.in-Line.is (c.write_message.result, rw (c.fault_parts.ensures, c.as_str-in-Line.ensures.value, c.decimal_text.ensures.text, c.from.ensures, c.as_str-in-Line-2.ensures.value, c.message.ensures) at c.write_message.ensures)

pub returns-in-Input : goal.returns-in-Input
returns-in-Input g c =
    rw c.in-Input.is (c.write_message-in-Input.result, rw (c.unread_parts.ensures, c.reason_words.ensures) at c.write_message-in-Input.ensures)

pub returns-in-NoMemory : goal.returns-in-NoMemory
returns-in-NoMemory g c = rw c.in-NoMemory.is (c.write_line-in-NoMemory.result, c.write_line-in-NoMemory.ensures)

pub returns-in-Output : goal.returns-in-Output
returns-in-Output g c = rw c.in-Output.is (c.write_line-in-Output.result, c.write_line-in-Output.ensures)

pub returns-in-Argument : goal.returns-in-Argument
returns-in-Argument g c =
    rw c.in-Argument.is (c.write_line.result, rw (c.as_str.ensures.value, c.excerpt.ensures.text, c.as_str-in-Argument.ensures.value, c.argument_message.ensures) at c.write_line.ensures)

pub returns-in-File : goal.returns-in-File
returns-in-File g c =
    rw c.in-File.is (c.write_message-in-File.result, rw (c.file_parts.ensures, c.file_message.ensures) at c.write_message-in-File.ensures)
