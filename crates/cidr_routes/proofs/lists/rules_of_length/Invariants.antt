use Rattle.std.proofs.Common.{◌≡◌, take}
use Rattle.cidr_routes.specs.Lengths.{rules_of}
use Rattle.cidr_routes.proofs.lists.rules_of_length.Given as goal

-- the rules of the rows so far
abbrev pub invariant-loop-row : goal.invariant-loop-row
invariant-loop-row g l = l.rules.items ≡ rules_of g.C.BitString.bits l.len (take l.row-index l.rows)
