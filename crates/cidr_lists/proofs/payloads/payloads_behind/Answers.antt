use Rattle.std.proofs.lemmas.Result.{err_from_is_err_and}
use Rattle.cidr_lists.specs.PayloadReading.{HavePayloadsBehind, IsBehindError}
use Rattle.cidr_lists.proofs.Anywhere.{all_of, next_is}
use Rattle.cidr_lists.proofs.LinesPassed.{passed_on}
use Rattle.cidr_lists.proofs.PayloadTexts.{no_payloads, payload_passed, payloads_error, payloads_read}
use Rattle.cidr_lists.proofs.payloads.payloads_behind.Goals as goal

pub loop-lists-init : goal.loop-lists-init
loop-lists-init c = no_payloads c.args.layout c.args.text.now c.new-lists.result c.new-lists.ensures

pub returns-in_err-add_payload_line : goal.returns-in_err-add_payload_line
returns-in_err-add_payload_line c =
    let (y, is, same) = err_from_is_err_and c.from_residual.result c.from_residual.ensures.1 in
    passed_on (HavePayloadsBehind c.args.layout c.args.text.now) (IsBehindError c.args.layout c.args.text.now) _ y _ is same
    (payloads_error c.args.layout c.args.text.now c.loop-lists.rest.now c.split_at.result.0.now c.line_len.result c.loop-lists.number c.loop-lists.lists
    c.add_payload_line.new.lists c.line_len.ensures.first c.split_at.ensures.front c.loop-lists.invariant c.line_len.ensures.fits _ c.in_err-add_payload_line.ensures)

pub returns-in_default : goal.returns-in_default
returns-in_default c =
    let rest = c.loop-lists.rest.now in
    payloads_read c.args.layout c.args.text.now rest c.split_at.result.0.now c.line_len.result c.loop-lists.number c.loop-lists.lists
    c.add_payload_line.new.lists c.line_len.ensures.first c.split_at.ensures.front c.loop-lists.invariant
    (all_of rest c.line_len.result c.line_len.ensures.fits (rw c.split_at.ensures.back at c.in_default.ensures.cases))
    c.in_ok-add_payload_line.ensures

pub loop-lists-preserved : goal.loop-lists-preserved
loop-lists-preserved c =
    let rest = c.loop-lists.rest.now in
    let split = rw c.split_at.ensures.back at c.in-Some.ensures.cases.0 in
    let next = next_is rest c.in-Some.next.now c.line_len.result c.in-Some.field-0-0.now c.line_len.ensures.fits split in
    payload_passed c.args.layout c.args.text.now rest c.split_at.result.0.now c.line_len.result c.loop-lists.number c.loop-lists.lists
    c.add_payload_line.new.lists c.line_len.ensures.first c.split_at.ensures.front c.loop-lists.invariant c.in-Some.next.now next.0 next.1 c.in_ok-add_payload_line.ensures
