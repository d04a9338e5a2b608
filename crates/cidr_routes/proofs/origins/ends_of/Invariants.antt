use Rattle.std.proofs.Common.{◌≡◌, ◌+◌, ◌<◌, ℕ, length, get_or}
use Rattle.cidr_routes.proofs.origins.ends_of.Given as goal

-- a row for each payload up to here
abbrev pub invariant-loop-i : goal.invariant-loop-i
invariant-loop-i g l = record {
  len : length l.rows.items ≡ l.i;
  rows : (k : ℕ) (d : _) (e : _) → k < l.i → get_or l.rows.items k e ≡ ((get_or l.payloads k d).network, k + 1);
}
