use Rattle.std.proofs.Common.{◌∷◌, map, take}
use Rattle.netset_commands.specs.Unchecked.{AreToldEntries}
use Rattle.netset_commands.proofs.input.entries.read_named.Given as goal

abbrev pub invariant-loop-other : goal.invariant-loop-other
invariant-loop-other g l =
    AreToldEntries (g.F.Sources.contents l.sources) (l.file ∷ take l.other-index (map (λ file. file.now) l.files)) l.entries.items
