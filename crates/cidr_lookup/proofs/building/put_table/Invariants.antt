use Rattle.std.proofs.Common.{◌≡◌, ℕ, ◌+◌, ◌*◌, ◌/◌, ◌^◌, ◌<◌, ◌≤◌, [], get_or, length, map}
use Rattle.cidr_lookup.specs.Keys.{key_networks}
use Rattle.cidr_lookup.specs.Nodes.{AreEntries, IsEntry}
use Rattle.cidr_lookup.specs.Tables.{IsAnswer}
use Rattle.cidr_lookup.proofs.building.put_table.Given as goal

abbrev pub invariant-loop-block : goal.invariant-loop-block
invariant-loop-block g l = record {
  kept_first : g.F.Sink.given l.first ≡ g.F.Sink.given l.fn.first;
  kept_words : g.S.Sink.given l.words ≡ g.S.Sink.given l.fn.words;
  near : l.near < length l.starts;
  upto : get_or (map g.A.Address.value l.starts) l.near 0 * 2 ^ g.A.Address.padding ≤ l.block * 2 ^ (6 * l.steps);
  until : (block : ℕ) → block < l.until → l.near + 1 < length l.starts
      → block < get_or (map g.A.Address.value l.starts) (l.near + 1) 0 * 2 ^ g.A.Address.padding / 2 ^ (6 * l.steps);
  long : length (g.F.Sink.put l.first) ≡ l.block;
  entries : AreEntries (IsEntry (IsAnswer g.A.Address.width g.A.Address.padding (key_networks g.A.Address.value l.keys)) l.steps) 0 l.block [] (g.F.Sink.put l.first) (g.S.Sink.put l.words);
}
