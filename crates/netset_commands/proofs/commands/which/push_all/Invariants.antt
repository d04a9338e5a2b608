use Rattle.std.proofs.Common.{take, Ok}
use Rattle.std.specs.List.{flat_map}
use Rattle.cidr_io.specs.Collecting.{Collects}
use Rattle.netset_commands.specs.Which.{which_line}
use Rattle.netset_commands.proofs.commands.which.push_all.Given as goal

abbrev pub invariant-loop-entry : goal.invariant-loop-entry
invariant-loop-entry g l =
    Collects (g.S.Sink.state l.fn.out) (g.S.Sink.state l.out) l.fn.block l.block (flat_map (which_line l.fn.address) (take l.entry-index l.entries)) (Ok tt)
