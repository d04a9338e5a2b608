use Rattle.std.proofs.Common.{drop}
use Rattle.cidr.specs.texts.Printed.{plain_text}
use Rattle.cidr_lists.specs.Printing.{line}
use Rattle.netset_commands.proofs.WrittenLines.{Walked}
use Rattle.netset_commands.proofs.output.printing.write_networks.Given as goal

abbrev pub invariant-loop-network : goal.invariant-loop-network
invariant-loop-network g l =
    Walked (λ network. line (plain_text g.C.FamilyCidr.FAMILY (g.C.BitString.bits network))) l.networks (drop l.network-index l.networks) (g.S.Sink.state l.fn.out) (g.S.Sink.state l.out) l.block
