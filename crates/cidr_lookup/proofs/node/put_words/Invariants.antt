use Rattle.std.proofs.Common.{◌≡◌, ◌++◌, take}
use Rattle.cidr_lookup.proofs.node.put_words.Given as goal

abbrev pub invariant-loop-at : goal.invariant-loop-at
invariant-loop-at g l = record {
  kept : g.S.Sink.given l.sink ≡ g.S.Sink.given l.fn.sink;
  put : g.S.Sink.put l.sink ≡ g.S.Sink.put l.fn.sink ++ take l.at l.words;
}
