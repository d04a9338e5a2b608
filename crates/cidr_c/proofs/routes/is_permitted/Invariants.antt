use Rattle.std.proofs.Common.{◌↔◌, drop, map}
use Rattle.cidr.specs.either.IpNetwork.{any_bits}
use Rattle.cidr_routes.specs.PrefixLists.{IsPermitted}
use Rattle.cidr_c.specs.model.Routes.{row_in}
use Rattle.cidr_c.proofs.routes.is_permitted.Given as goal

-- the rows from here on decide
abbrev pub invariant-loop-row : goal.invariant-loop-row
invariant-loop-row l =
    IsPermitted any_bits (map row_in l.rows) (any_bits l.network) ↔ IsPermitted any_bits (map row_in (drop l.row-index l.rows)) (any_bits l.network)
