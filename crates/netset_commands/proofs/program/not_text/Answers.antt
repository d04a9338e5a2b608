use Rattle.netset_commands.proofs.program.not_text.Goals as goal

pub returns-in-NotText : goal.returns-in-NotText
returns-in-NotText c = λ words refused unread. rw c.as_str.ensures.value (rw c.in-NotText.is at unread)

pub returns-in-NoMemory : goal.returns-in-NoMemory
returns-in-NoMemory c = λ words refused unread. rw c.in-NoMemory.is at unread
