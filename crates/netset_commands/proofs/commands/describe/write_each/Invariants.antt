use Rattle.std.proofs.Common.{drop}
use Rattle.netset_commands.specs.Describing.{told_of}
use Rattle.netset_commands.specs.Networks.{ip_of}
use Rattle.netset_commands.proofs.WrittenLines.{Walked}
use Rattle.netset_commands.proofs.commands.describe.write_each.Given as goal

abbrev pub invariant-loop-network : goal.invariant-loop-network
invariant-loop-network g l =
    Walked (λ network. told_of l.fn.what (ip_of g.C.FamilyCidr.FAMILY (g.C.BitString.bits network))) l.networks (drop l.network-index l.networks) (g.S.Sink.state l.fn.out) (g.S.Sink.state l.out) l.block
