use Rattle.cidr_lists.specs.RowLines.{bits_row, row_line}
use Rattle.cidr_lists.proofs.PrintedTexts.{AreAppended}
use Rattle.cidr_lists.proofs.row_lines.push_rows.Given as goal

abbrev pub invariant-loop-row : goal.invariant-loop-row
invariant-loop-row g l =
    AreAppended (λ row. row_line g.C.FamilyCidr.FAMILY l.name (bits_row g.C.BitString.bits row)) l.fn.text.items l.rows l.row-index l.text.items
