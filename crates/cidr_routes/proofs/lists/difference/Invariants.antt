use Rattle.std.proofs.Common.{◌↔◌, ◌<◌, Bool, List, length}
use Rattle.cidr_routes.specs.PrefixLists.{IsPermitted}
use Rattle.cidr_routes.proofs.lists.difference.Given as goal

-- the same shorter networks are permitted
abbrev pub invariant-loop-len : goal.invariant-loop-len
invariant-loop-len g l = (p : List Bool) → length p < l.len → IsPermitted g.C.BitString.bits l.these p ↔ IsPermitted g.C.BitString.bits l.those p
