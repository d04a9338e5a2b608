use Rattle.std.proofs.lemmas.Result.{err_from_is_err_and}
use Rattle.cidr_lists.specs.PayloadFiles.{HavePayloads, IsPayloadsError}
use Rattle.cidr_lists.proofs.Anywhere.{all_of, next_is}
use Rattle.cidr_lists.proofs.LinesPassed.{passed_on}
use Rattle.cidr_lists.proofs.PayloadTexts.{file_read, header_alone, header_error}
use Rattle.cidr_lists.proofs.payloads.PayloadLists.of_text.Goals as goal

pub returns-in_err-layout : goal.returns-in_err-layout
returns-in_err-layout c =
    let (y, is, same) = err_from_is_err_and c.from_residual.result c.from_residual.ensures.1 in
    passed_on (HavePayloads c.args.text.now) (IsPayloadsError c.args.text.now) _ y _ is same
    (header_error c.args.text.now c.split_at.result.0.now c.line_len.result c.line_len.ensures.first c.split_at.ensures.front c.line_len.ensures.fits _ c.in_err-layout.ensures)

pub returns-in-Some : goal.returns-in-Some
returns-in-Some c =
    let split = rw c.split_at.ensures.back at c.in-Some.ensures.cases.0 in
    let next = next_is c.args.text.now c.in-Some.rest.now c.line_len.result c.in-Some.field-0-0.now c.line_len.ensures.fits split in
    file_read c.args.text.now c.split_at.result.0.now c.line_len.result c.line_len.ensures.first c.split_at.ensures.front c.in_ok-layout.layout
    c.in_ok-layout.ensures c.in-Some.rest.now next.0 next.1 c.payloads_behind.result c.payloads_behind.ensures

pub returns-in-None : goal.returns-in-None
returns-in-None c =
    header_alone c.args.text.now c.split_at.result.0.now c.line_len.result c.line_len.ensures.first c.split_at.ensures.front c.in_ok-layout.layout
    c.in_ok-layout.ensures (all_of c.args.text.now c.line_len.result c.line_len.ensures.fits (rw c.split_at.ensures.back at c.in-None.ensures.cases))
    c.new.result c.new.ensures
