use Rattle.std.proofs.lemmas.Result.{err_from_is_err_and}
use Rattle.cidr_lists.specs.ListTexts.{HaveNumberedRows, IsRowsError}
use Rattle.cidr_lists.proofs.Anywhere.{all_of, next_is}
use Rattle.cidr_lists.proofs.LinesPassed.{passed_on}
use Rattle.cidr_lists.proofs.PrefixTexts.{no_rows, row_passed, rows_error, rows_read}
use Rattle.cidr_lists.proofs.prefix_lists.NumberedRows.of_text.Goals as goal

pub loop-rows-init : goal.loop-rows-init
loop-rows-init c = no_rows c.args.name.now c.args.text.now c.new-rows.result c.new-rows.ensures

pub returns-in_err-after : goal.returns-in_err-after
returns-in_err-after c =
    let (y, is, same) = err_from_is_err_and c.from_residual.result c.from_residual.ensures.1 in
    passed_on (HaveNumberedRows c.args.name.now c.args.text.now) (IsRowsError c.args.text.now) _ y _ is same
    (rows_error c.args.name.now c.args.text.now c.loop-rows.rest.now c.split_at.result.0.now c.line_len.result c.loop-rows.number c.loop-rows.rows
    c.add_row_line.new.rows c.loop-rows.about c.line_len.ensures.first c.split_at.ensures.front c.loop-rows.invariant c.line_len.ensures.fits _ c.in_err-after.ensures)

pub returns-in_default : goal.returns-in_default
returns-in_default c =
    let rest = c.loop-rows.rest.now in
    rows_read c.args.name.now c.args.text.now rest c.split_at.result.0.now c.line_len.result c.loop-rows.number c.loop-rows.rows
    c.add_row_line.new.rows c.loop-rows.about c.line_len.ensures.first c.split_at.ensures.front c.loop-rows.invariant
    c.in_ok-after.after
    (all_of rest c.line_len.result c.line_len.ensures.fits (rw c.split_at.ensures.back at c.in_default.ensures.cases))
    c.in_ok-after.ensures

pub loop-rows-preserved : goal.loop-rows-preserved
loop-rows-preserved c =
    let rest = c.loop-rows.rest.now in
    let split = rw c.split_at.ensures.back at c.in-Some.ensures.cases.0 in
    let next = next_is rest c.in-Some.next.now c.line_len.result c.in-Some.field-0-0.now c.line_len.ensures.fits split in
    row_passed c.args.name.now c.args.text.now rest c.split_at.result.0.now c.line_len.result c.loop-rows.number c.loop-rows.rows
    c.add_row_line.new.rows c.loop-rows.about c.line_len.ensures.first c.split_at.ensures.front c.loop-rows.invariant
    c.in_ok-after.after c.in-Some.next.now next.0 next.1 c.in_ok-after.ensures
