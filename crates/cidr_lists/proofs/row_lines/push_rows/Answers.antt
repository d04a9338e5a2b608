use Rattle.cidr_lists.specs.RowLines.{bits_row, row_line}
use Rattle.cidr_lists.proofs.PrintedTexts.{all_appended, none_appended, one_appended}
use Rattle.cidr_lists.proofs.row_lines.push_rows.Goals as goal

pub loop-row-init : goal.loop-row-init
loop-row-init g c =
    none_appended (λ row. row_line g.C.FamilyCidr.FAMILY c.args.name.now (bits_row g.C.BitString.bits row)) c.args.text.now.items c.args.rows.now

pub loop-row-preserved : goal.loop-row-preserved
loop-row-preserved g c =
    one_appended (λ row. row_line g.C.FamilyCidr.FAMILY c.args.name.now (bits_row g.C.BitString.bits row)) c.args.text.now.items c.args.rows.now
    c.loop-row.row-index c.row-item.result c.loop-row.text.items c.push_row.new.text.items c.loop-row-test.true c.row-item.is c.loop-row.invariant
    c.in_ok-push_row.ensures

pub returns : goal.returns
returns g c =
    all_appended (λ row. row_line g.C.FamilyCidr.FAMILY c.args.name.now (bits_row g.C.BitString.bits row)) c.args.text.now.items c.args.rows.now
    c.loop-row.row-index c.loop-row.text.items c.loop-row-test.false c.loop-row.invariant
