use Rattle.std.proofs.Common.{drop}
use Rattle.cidr.specs.texts.Printed.{plain_text}
use Rattle.netset_commands.specs.Compared.{named}
use Rattle.netset_commands.specs.Same.{value_lines}
use Rattle.netset_commands.proofs.WrittenLines.{Walked}
use Rattle.netset_commands.proofs.commands.same.write_rows.Given as goal

abbrev pub invariant-loop-row : goal.invariant-loop-row
invariant-loop-row g l =
    Walked (λ row. value_lines (plain_text g.C.FamilyCidr.FAMILY (g.C.BitString.bits row.0)) (named l.numbers row.1)) l.rows (drop l.row-index l.rows) (g.S.Sink.state l.fn.out) (g.S.Sink.state l.out) l.block
