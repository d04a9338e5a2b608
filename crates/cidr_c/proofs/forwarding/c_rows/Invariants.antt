use Rattle.std.proofs.Common.{◌≡◌, map, take}
use Rattle.cidr_c.specs.model.Forwarding.{AreRowValues, network_row}
use Rattle.cidr_c.proofs.forwarding.c_rows.Given as goal

abbrev pub invariant-loop-row : goal.invariant-loop-row
invariant-loop-row l = AreRowValues l.rows.items × (map network_row l.rows.items ≡ take l.row-index l.listed)
