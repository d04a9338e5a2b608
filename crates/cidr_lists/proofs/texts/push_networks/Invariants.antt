use Rattle.cidr.specs.texts.Printed.{plain_text}
use Rattle.cidr_lists.specs.Printing.{line}
use Rattle.cidr_lists.proofs.PrintedTexts.{AreAppended}
use Rattle.cidr_lists.proofs.texts.push_networks.Given as goal

abbrev pub invariant-loop-network : goal.invariant-loop-network
invariant-loop-network g l = AreAppended (λ network. line (plain_text g.C.FamilyCidr.FAMILY (g.C.BitString.bits network))) l.fn.text.items l.networks l.network-index l.text.items
