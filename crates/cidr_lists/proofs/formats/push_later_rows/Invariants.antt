use Rattle.std.proofs.Common.{◌++◌}
use Rattle.cidr_lists.specs.Formats.{family_by, layout_in, row}
use Rattle.cidr_lists.proofs.PrintedTexts.{AreAppended}
use Rattle.cidr_lists.proofs.formats.push_later_rows.Given as goal

abbrev pub invariant-loop-network : goal.invariant-loop-network
invariant-loop-network g l =
    AreAppended (λ network. l.layout.between.now ++ row (family_by g.C.FamilyCidr.FAMILY g.C.BitString.bits) (layout_in l.layout) network) l.fn.text.items l.networks l.network-index l.text.items
