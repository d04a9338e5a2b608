use Rattle.std.proofs.Common.{Some, None, arith}
use Rattle.std.proofs.lemmas.Result.{err_from_is_err_and}
use Rattle.std.proofs.lemmas.Str.Pattern.{split_parts}
use Rattle.cidr_lists.proofs.Contents.{is_nothing, no_first, no_last}
use Rattle.cidr_lists.proofs.LineFeeds.{not_empty}
use Rattle.cidr_lists.proofs.lines.content_of_field.Goals as goal

pub returns-then-is_empty : goal.returns-then-is_empty
returns-then-is_empty c = is_nothing c.args.field.now c.is_empty.result c.is_empty.ensures c.if-is_empty.true

pub returns-in-Err : goal.returns-in-Err
returns-in-Err c =
    let lacks = split_parts 45 c.args.field.now None c.in_default.ensures.cases (omega arith) in
    (not_empty c.args.field.now c.is_empty.result c.is_empty.ensures c.if-is_empty.false, lacks, c.in-Err.ensures, c.bad_network.ensures)

pub returns-in_err-first : goal.returns-in_err-first
returns-in_err-first c =
    let (y, is, same) = err_from_is_err_and c.from_residual.result c.from_residual.ensures.1 in
    let parts = split_parts 45 c.args.field.now (Some (c.in-Some.front, c.in-Some.back)) c.in-Some.ensures.cases (omega arith) in
    no_first c.args.host_bits c.args.field.now c.in-Some.front.now c.in-Some.back.now parts.0 parts.1 c.from_residual.result y _ is same c.in_err-first.ensures

pub returns-in_err-last : goal.returns-in_err-last
returns-in_err-last c =
    let (y, is, same) = err_from_is_err_and c.from_residual-in_err-last.result c.from_residual-in_err-last.ensures.1 in
    let parts = split_parts 45 c.args.field.now (Some (c.in-Some.front, c.in-Some.back)) c.in-Some.ensures.cases (omega arith) in
    no_last c.args.host_bits c.args.field.now c.in-Some.front.now c.in-Some.back.now parts.0 parts.1 c.from_residual-in_err-last.result y _ c.in_ok-first.first is same
    c.in_ok-first.ensures c.in_err-last.ensures

pub returns : goal.returns
returns c =
    let parts = split_parts 45 c.args.field.now (Some (c.in-Some.front, c.in-Some.back)) c.in-Some.ensures.cases (omega arith) in
    c.range_of.ensures c.args.host_bits (c.in-Some.front.now, c.in-Some.back.now, parts.0, c.in_ok-first.ensures, c.in_ok-last.ensures)
