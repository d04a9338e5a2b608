use Rattle.std.proofs.Common.{◌≡◌, map, take}
use Rattle.cidr_lists.specs.Sets.{IsInSets}
use Rattle.netset_commands.specs.Gathering.{AreStreamed}
use Rattle.netset_commands.specs.Picking.{PicksOf}
use Rattle.netset_commands.specs.declared.commands.matching.Written.TheVariants as written
use Rattle.netset_commands.specs.declared.output.answers.Verdict.TheVariants.{No}
use Rattle.netset_commands.proofs.commands.matching.match_files.Given as goal

abbrev pub invariant-loop-file : goal.invariant-loop-file
invariant-loop-file g l =
    AreStreamed (g.F.Sources.contents l.sources) l.matcher.picking.headed (PicksOf l.matcher.picking (IsInSets l.matcher.sets.now)) l.matcher.picking.written
    (take l.file-index (map (λ file. file.now) l.files)) (g.O.Sink.state l.fn.out) (g.O.Sink.state l.out) l.verdict
    × (l.matcher.picking.written ≡ written.Nothing → l.verdict ≡ No)
