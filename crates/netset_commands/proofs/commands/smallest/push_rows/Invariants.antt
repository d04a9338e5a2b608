use Rattle.std.proofs.Common.{take, Ok}
use Rattle.std.specs.List.{flat_map}
use Rattle.cidr_io.specs.Collecting.{Collects}
use Rattle.cidr.specs.texts.Printed.{forced_text}
use Rattle.netset_commands.specs.Fewest.{told_row}
use Rattle.netset_commands.proofs.commands.smallest.push_rows.Given as goal

abbrev pub invariant-loop-row : goal.invariant-loop-row
invariant-loop-row g l =
    Collects (g.S.Sink.state l.fn.out) (g.S.Sink.state l.out) l.fn.block l.block
    (flat_map (told_row (λ p. forced_text g.C.FamilyCidr.FAMILY (g.C.BitString.bits p)) l.numbers) (take l.row-index l.rows)) (Ok tt)
