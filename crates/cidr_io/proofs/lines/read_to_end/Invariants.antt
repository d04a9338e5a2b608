use Rattle.std.proofs.Common.{◌-◌, ◌<◌, [], vec_len}
use Rattle.std.specs.Io.KnownBytes.{prepend_known}
use Rattle.cidr_io.specs.Lines.{StaysTold}
use Rattle.cidr_io.proofs.lines.read_to_end.Given as goal

abbrev pub invariant-loop-block : goal.invariant-loop-block
invariant-loop-block g l =
    (0 < vec_len l.chunk) × StaysTold (prepend_known [] (g.S.Source.left l.fn.source)) (prepend_known l.block.items (g.S.Source.left l.source))

-- a block has fewer than 2 ^ 63 bytes
abbrev pub decreases-loop-block : goal.decreases-loop-block
decreases-loop-block g l = 9223372036854775808 - vec_len l.block
