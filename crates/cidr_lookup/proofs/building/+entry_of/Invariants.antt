use Rattle.std.proofs.Common.{◌≡◌, ℕ, List, ◌+◌, ◌-◌, ◌*◌, ◌^◌, ◌<◌, ◌≤◌, get_or, length, map}
use Rattle.cidr_lookup.specs.Keys.{key_networks}
use Rattle.cidr_lookup.specs.Nodes.{AreEntries, IsEntry}
use Rattle.cidr_lookup.specs.Putting.{AreRuns}
use Rattle.cidr_lookup.specs.Tables.{IsAnswer}
use Rattle.cidr_lookup.proofs.building.+entry_of.Given as goal

abbrev pub decreases-entry_of : goal.decreases-entry_of
decreases-entry_of g l = l.steps

abbrev pub invariant-loop-part : goal.invariant-loop-part
invariant-loop-part g l = record {
  kept : g.S.Sink.given l.sink ≡ g.S.Sink.given l.fn.sink;
  parts : l.part ≤ 64;
  near : l.near < length l.starts;
  upto : get_or (map g.A.Address.value l.starts) l.near 0 * 2 ^ g.A.Address.padding ≤ (l.block * 64 + l.part) * 2 ^ (6 * (l.steps - 1));
  entries : (entries : List ℕ) × AreRuns entries l.part l.runs.marks l.runs.entries l.runs.count
      × AreEntries (IsEntry (IsAnswer g.A.Address.width g.A.Address.padding (key_networks g.A.Address.value l.keys)) (l.steps - 1)) (l.block * 64) l.part (g.S.Sink.put l.fn.sink) entries (g.S.Sink.put l.sink);
}

abbrev pub decreases-loop-part : goal.decreases-loop-part
decreases-loop-part g l = 64 - l.part
