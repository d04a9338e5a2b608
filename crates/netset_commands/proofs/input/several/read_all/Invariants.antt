use Rattle.std.proofs.Common.{map, take}
use Rattle.netset_commands.specs.Answering.{AreRead}
use Rattle.netset_commands.proofs.input.several.read_all.Given as goal

abbrev pub invariant-loop-file : goal.invariant-loop-file
invariant-loop-file g l = AreRead (g.F.Sources.contents l.sources) (take l.file-index (map (λ file. file.now) l.files)) l.sets.items
