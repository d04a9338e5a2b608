use Rattle.std.proofs.Common.{◌↔◌, drop}
use Rattle.cidr_routes.specs.PrefixLists.{IsPermitted}
use Rattle.cidr_routes.proofs.lists.permits.Given as goal

-- the rows from here on decide
abbrev pub invariant-loop-row : goal.invariant-loop-row
invariant-loop-row g l =
    IsPermitted g.C.BitString.bits l.rows (g.C.BitString.bits l.network) ↔ IsPermitted g.C.BitString.bits (drop l.row-index l.rows) (g.C.BitString.bits l.network)
