use Rattle.std.proofs.Common.{◌≡◌, ℕ, List, ◌+◌, ◌-◌, ◌*◌, ◌^◌, ◌<◌, ◌≤◌, get_or, length, map}
use Rattle.cidr_lookup.specs.Keys.{key_networks}
use Rattle.cidr_lookup.specs.Putting.{AllHave, AreRuns}
use Rattle.cidr_lookup.specs.Tables.{IsAnswer}
use Rattle.cidr_lookup.proofs.building.add_whole.Given as goal

abbrev pub invariant-loop-part : goal.invariant-loop-part
invariant-loop-part g l = record {
  from : l.from ≤ l.part;
  parts : l.part ≤ 64;
  near : l.range < length l.starts;
  upto : get_or (map g.A.Address.value l.starts) l.range 0 * 2 ^ g.A.Address.padding ≤ (l.block * 64 + l.part) * 2 ^ (6 * (l.steps - 1));
  some : (entries : List ℕ) × AreRuns entries l.part l.runs.marks l.runs.entries l.runs.count;
  runs : (before : List ℕ) → AreRuns before l.from l.fn.runs.marks l.fn.runs.entries l.fn.runs.count
      → (entries : List ℕ) × AreRuns entries l.part l.runs.marks l.runs.entries l.runs.count
      × ((i : ℕ) → i < l.from → get_or entries i 0 ≡ get_or before i 0)
      × ((i : ℕ) → l.from ≤ i → i < l.part
      → AllHave (IsAnswer g.A.Address.width g.A.Address.padding (key_networks g.A.Address.value l.keys)) (l.steps - 1) (l.block * 64 + i) (get_or entries i 0));
}

abbrev pub decreases-loop-part : goal.decreases-loop-part
decreases-loop-part g l = 64 - l.part
