use Rattle.std.proofs.Common.{take, map}
use Rattle.netset_commands.specs.Loading.{AreListsLoaded}
use Rattle.netset_commands.proofs.input.keeping.load.Given as goal

abbrev pub invariant-loop-name : goal.invariant-loop-name
invariant-loop-name g l =
    AreListsLoaded l.takes_file l.skips (g.F.Sources.contents l.sources) l.kind (take l.name-index (map (λ name. name.now) l.names)) (g.E.Sink.state l.fn.err) (g.E.Sink.state l.err)
    l.lists.items l.found
