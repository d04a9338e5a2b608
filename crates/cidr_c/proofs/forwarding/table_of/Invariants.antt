use Rattle.std.proofs.Common.{◌≡◌, map, take}
use Rattle.cidr_c.specs.model.Forwarding.{AreRowValues, network_row}
use Rattle.cidr_c.proofs.forwarding.table_of.Given as goal

abbrev pub invariant-loop-row : goal.invariant-loop-row
invariant-loop-row l = AreRowValues (take l.row-index l.rows) × (l.listed.items ≡ map network_row (take l.row-index l.rows))
