-- The exit statuses, and what is written to standard error.
use Rattle.std.specs.Prelude.{◌≡◌, ℕ, List, ◌++◌, codes, Result, Ok, Err}
use Rattle.cidr.specs.texts.Messages.{parse_message, address_message}
use Rattle.cidr_io.specs.Writing.{State, Tells}
use Rattle.cidr_tool.specs.declared.errors.Fault.{Fault}
use Rattle.cidr_tool.specs.declared.errors.Fault.TheVariants.{Network, Address}
use Rattle.cidr_tool.specs.declared.errors.ToolError.{ToolError}
use Rattle.cidr_tool.specs.declared.errors.ToolError.TheVariants.{Refused, Usage, Output}

-- the message of an error is that of what it holds
abbrev pub message_of : Fault → List ℕ
message_of (Network e) = parse_message e
message_of (Address e) = address_message e

-- the exit status: 0 done, 1 an argument is in error, 2 usage, 3 the output failed
abbrev pub status_of : Result (Unit {0}) ToolError → ℕ
status_of (Ok _) = 0
status_of (Err (Refused fault)) = 1
status_of (Err Usage) = 2
status_of (Err Output) = 3

-- the line for arguments that are no command
abbrev pub usage_line : List ℕ
usage_line = codes "usage: cidr_tool show NET | in NET ADDR | cmp NET NET | walk NET ENDS | bytes NET | loose TEXT\n"

-- the line for an output that failed
abbrev pub output_line : List ℕ
output_line = codes "output failed\n"

-- the line for arguments that there is no memory for
abbrev pub no_memory_line : List ℕ
no_memory_line = codes "no memory\n"

-- the line for an argument in error: the error's message
abbrev pub refusal_line : Fault → List ℕ
refusal_line fault = message_of fault ++ codes "\n"

-- what is written for an answer: nothing if it is done, and else one line
abbrev pub Reports : Result (Unit {0}) ToolError → State → State → Type 0
Reports (Ok _) old new = new ≡ old
Reports (Err (Refused fault)) old new = Tells old new (refusal_line fault)
Reports (Err Usage) old new = Tells old new usage_line
Reports (Err Output) old new = Tells old new output_line
