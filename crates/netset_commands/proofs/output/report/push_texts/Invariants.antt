use Rattle.std.proofs.Common.{take, Ok}
use Rattle.std.specs.List.{flat_map}
use Rattle.cidr_io.specs.Collecting.{Collects}
use Rattle.netset_commands.proofs.output.report.push_texts.Given as goal

abbrev pub invariant-loop-text : goal.invariant-loop-text
invariant-loop-text g l =
    Collects (g.S.Sink.state l.fn.out) (g.S.Sink.state l.out) l.fn.block l.block (flat_map (λ text. text.now) (take l.text-index l.texts)) (Ok tt)
