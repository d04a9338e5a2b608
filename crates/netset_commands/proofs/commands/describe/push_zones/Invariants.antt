use Rattle.cidr_lists.specs.Printing.{line}
use Rattle.netset_commands.proofs.Described.{zone_names}
use Rattle.netset_commands.proofs.Lined.{Lined}
use Rattle.netset_commands.proofs.commands.describe.push_zones.Given as goal

abbrev pub invariant-loop-name : goal.invariant-loop-name
invariant-loop-name g l =
    Lined line (zone_names l.fn.network) l.zones (g.S.Sink.state l.fn.out) (g.S.Sink.state l.out) l.fn.block l.block
