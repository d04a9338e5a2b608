use Rattle.std.proofs.Common.{◌≡◌, ℕ, ◌+◌, ◌-◌, ◌*◌, ◌/◌, ◌%◌, ◌^◌, ◌<◌, ◌≤◌, length, map, get_or}
use Rattle.cidr_lookup.proofs.building.changes_in.Given as goal

-- so many ranges begin in the block, at multiples of 2 ^ 82
abbrev pub invariant-loop-count : goal.invariant-loop-count
invariant-loop-count g l = record {
  few : l.count ≤ 31;
  within : l.range + l.count < length l.starts;
  each : (j : ℕ) → l.range < j → j ≤ l.range + l.count → (get_or (map g.A.Address.value l.starts) j 0 * 2 ^ g.A.Address.padding % 2 ^ 82 ≡ 0)
      × (get_or (map g.A.Address.value l.starts) j 0 * 2 ^ g.A.Address.padding / 2 ^ (6 * l.steps) ≤ l.block);
}

abbrev pub decreases-loop-count : goal.decreases-loop-count
decreases-loop-count g l = 31 - l.count
