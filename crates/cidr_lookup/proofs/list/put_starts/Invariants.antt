use Rattle.std.proofs.Common.{◌≡◌, ◌++◌, map}
use Rattle.cidr_lookup.specs.Searching.{change_word}
use Rattle.cidr_lookup.specs.Ranges.{changes_from}
use Rattle.cidr_lookup.proofs.Lists.{words_left}
use Rattle.cidr_lookup.proofs.list.put_starts.Given as goal

-- what is put, and what is left
abbrev pub invariant-loop-at : goal.invariant-loop-at
invariant-loop-at g l = record {
  kept : g.S.Sink.given l.sink ≡ g.S.Sink.given l.fn.sink;
  put : g.S.Sink.put l.sink ++ words_left change_word g.A.Address.padding (map g.A.Address.value l.starts) l.answers l.from l.count l.at
      ≡ g.S.Sink.put l.fn.sink ++ map change_word (changes_from g.A.Address.padding (map g.A.Address.value l.starts) l.answers l.from l.count);
}
