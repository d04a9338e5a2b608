use Rattle.std.proofs.Common.{map}
use Rattle.cidr_sets.specs.internal.Deciding.{AreRows}
use Rattle.cidr_sets.proofs.decisions.rule_rows.Given as goal

-- the rows of the rules so far
abbrev pub invariant-loop-index : goal.invariant-loop-index
invariant-loop-index g l = let f = g.C.BitString.bits in AreRows f (map (λ r. f r.network) l.rules) l.index l.rows.items
