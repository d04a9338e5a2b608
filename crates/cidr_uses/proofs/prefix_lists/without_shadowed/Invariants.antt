use Rattle.std.proofs.Common.{vec_len}
use Rattle.cidr.specs.model.Network.{width_of}
use Rattle.cidr_routes.specs.PrefixLists.{PermitSame}
use Rattle.cidr_uses.proofs.prefix_lists.without_shadowed.Given as goal

-- the rows that are left permit the same
abbrev pub invariant-loop-rows : goal.invariant-loop-rows
invariant-loop-rows g l = PermitSame g.C.BitString.bits (width_of g.C.FamilyCidr.FAMILY) l.rows.items l.fn.rows.items

abbrev pub decreases-loop-rows : goal.decreases-loop-rows
decreases-loop-rows g l = vec_len l.rows
