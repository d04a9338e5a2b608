use Rattle.std.proofs.Common.{take, Ok}
use Rattle.std.specs.List.{flat_map}
use Rattle.cidr_io.specs.Collecting.{Collects}
use Rattle.netset_commands.specs.Table.{about_of}
use Rattle.netset_commands.proofs.commands.help.push_abouts.Given as goal

abbrev pub invariant-loop-command : goal.invariant-loop-command
invariant-loop-command g l =
    Collects (g.S.Sink.state l.fn.out) (g.S.Sink.state l.out) l.fn.block l.block (flat_map about_of (take l.command-index l.commands)) (Ok tt)
