use Rattle.std.proofs.Common.{length, take, Ok}
use Rattle.std.specs.List.{flat_map}
use Rattle.std.specs.Str.{chars}
use Rattle.cidr_io.specs.Collecting.{Collects}
use Rattle.cidr_io.specs.Shown.{shown_char}
use Rattle.cidr_io.proofs.block.Block.push_shown.Given as goal

abbrev pub invariant-loop-c : goal.invariant-loop-c
invariant-loop-c g l =
    Collects (g.S.Sink.state l.fn.out) (g.S.Sink.state l.out) l.fn.self l.self (flat_map shown_char (take (length l.yielded) (chars l.text))) (Ok tt)
