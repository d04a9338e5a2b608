use Rattle.std.proofs.Common.{take, Ok, None}
use Rattle.std.specs.List.{flat_map}
use Rattle.cidr_lists.specs.Formats.{before_next, layout_in}
use Rattle.netset_commands.specs.Free.{TakesRows, inside_of}
use Rattle.netset_commands.specs.Networks.{ip_of}
use Rattle.netset_commands.proofs.commands.free.push_inside.Given as goal

abbrev pub invariant-loop-network : goal.invariant-loop-network
invariant-loop-network g l =
    TakesRows (before_next (layout_in l.fn.layout)) l.fn.most None
    (flat_map (λ network. inside_of l.fn.len (ip_of g.C.FamilyCidr.FAMILY (g.C.BitString.bits network))) (take l.network-index l.networks))
    (g.S.Sink.state l.fn.out) (g.S.Sink.state l.out) l.fn.block l.block (Ok (l.left, l.last))
