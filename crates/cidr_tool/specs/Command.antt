-- The request that a command of the program is.
use Rattle.cidr_tool.specs.Answer.{Request, Show, Holds, Compare, Walk, Bytes, Loose}
use Rattle.cidr_tool.specs.declared.commands.Command.{Command}
use Rattle.cidr_tool.specs.declared.commands.Command.TheVariants as command

-- the same command with the bytes of its arguments
abbrev pub request_of : Command → Request
request_of (command.Show net) = Show net.now
request_of (command.Holds net address) = Holds net.now address.now
request_of (command.Compare left right) = Compare left.now right.now
request_of (command.Walk net ends) = Walk net.now ends
request_of (command.Bytes net) = Bytes net.now
request_of (command.Loose text) = Loose text.now
