use Rattle.cidr_lists.proofs.Contents.{is_nothing}
use Rattle.cidr_lists.proofs.LineFeeds.{not_empty}
use Rattle.cidr_lists.proofs.RangeRows.{more_behind, no_end, no_more}
use Rattle.cidr_lists.proofs.forms.is_range_row.Goals as goal

pub returns-in_default-whole_address : goal.returns-in_default-whole_address
returns-in_default-whole_address c =
    no_end c.args.separator c.args.first.now c.args.rest.now c.field_at-second.result.now (rw c.place_at.ensures at c.field_at-second.ensures)
    c.in_default-whole_address.ensures

pub returns-then-is_empty : goal.returns-then-is_empty
returns-then-is_empty c =
    no_more c.args.separator c.args.first.now c.args.rest.now c.field_at-second.result.now (rw c.place_at.ensures at c.field_at-second.ensures)
    c.field_at-third.result.now (rw c.place_at-2.ensures at c.field_at-third.ensures)
    (is_nothing c.field_at-third.result.now _ c.is_empty.ensures c.if-is_empty.true)

pub returns : goal.returns
returns c =
    more_behind c.args.separator c.args.first.now c.args.rest.now c.field_at-second.result.now (rw c.place_at.ensures at c.field_at-second.ensures)
    c.field_at-third.result.now (rw c.place_at-2.ensures at c.field_at-third.ensures) c.in-Some.start c.in-Some-whole_address.end
    c.in-Some.ensures.0 c.in-Some.ensures.1 c.in-Some-whole_address.ensures.0 c.in-Some-whole_address.ensures.1
    (not_empty c.field_at-third.result.now _ c.is_empty.ensures c.if-is_empty.false) c.is_up_to.result c.is_up_to.ensures
