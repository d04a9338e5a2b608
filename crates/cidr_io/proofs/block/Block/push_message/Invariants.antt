use Rattle.std.proofs.Common.{take, Ok}
use Rattle.std.specs.List.{flat_map}
use Rattle.cidr_io.specs.Collecting.{Collects}
use Rattle.cidr_io.specs.Shown.{part_text}
use Rattle.cidr_io.proofs.block.Block.push_message.Given as goal

abbrev pub invariant-loop-part : goal.invariant-loop-part
invariant-loop-part g l =
    Collects (g.S.Sink.state l.fn.out) (g.S.Sink.state l.out) l.fn.self l.self (flat_map part_text (take l.part-index l.parts)) (Ok tt)
