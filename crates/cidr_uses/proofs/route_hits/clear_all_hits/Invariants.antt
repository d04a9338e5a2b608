use Rattle.std.proofs.Common.{◌≡◌, ℕ, ◌<◌, get_or}
use Rattle.std.specs.Map.{keys_of, values_of}
use Rattle.cidr_uses.proofs.route_hits.clear_all_hits.Given as goal

-- the keys are as before, and the values up to this index are 0
abbrev pub invariant-loop-index : goal.invariant-loop-index
invariant-loop-index g l =
    (keys_of l.routes.rows ≡ keys_of l.fn.routes.rows)
    × ((k : ℕ) → k < l.index → get_or (values_of l.routes.rows) k 0 ≡ 0)
