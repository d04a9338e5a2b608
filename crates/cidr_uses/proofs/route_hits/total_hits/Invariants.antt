use Rattle.std.proofs.Common.{◌≡◌, ◌+◌, ◌*◌, ◌^◌, ◌≤◌, length, sum}
use Rattle.std.specs.Map.{values_of}
use Rattle.cidr_uses.proofs.route_hits.total_hits.Given as goal

-- what is added so far, with the values that are left, is all
abbrev pub invariant-loop-hits : goal.invariant-loop-hits
invariant-loop-hits g l =
    (goal.iterator-loop-hits g).can_next l.hits-iterator
    × (goal.iterator-loop-hits g).is_finite l.hits-iterator
    × (l.total + sum (values_of l.hits-iterator) ≡ sum (values_of l.fn.routes.rows))
    × (l.total + 2 ^ 32 * length l.hits-iterator ≤ 2 ^ 96)
