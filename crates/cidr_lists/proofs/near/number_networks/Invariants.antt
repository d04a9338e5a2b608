use Rattle.std.proofs.Common.{map}
use Rattle.cidr.specs.declared.cidr.combined.IpCidr.TheVariants.{V4, V6}
use Rattle.cidr_lists.specs.Findings.{entry_network}
use Rattle.cidr_lists.proofs.NumberedRows.{AreRowsBelow}
use Rattle.cidr_lists.proofs.near.number_networks.Given as goal

-- the rows of the entries before this index
abbrev pub invariant-loop-index : goal.invariant-loop-index
invariant-loop-index l =
    AreRowsBelow V4 (map entry_network l.entries) l.index l.v4.items × AreRowsBelow V6 (map entry_network l.entries) l.index l.v6.items
