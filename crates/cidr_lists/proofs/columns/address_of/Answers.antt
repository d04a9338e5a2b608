use Rattle.std.proofs.Common.{[]}
use Rattle.cidr_lists.proofs.LineFeeds.{not_empty}
use Rattle.cidr_lists.proofs.PlainTexts.{address_split}
use Rattle.cidr_lists.proofs.columns.address_of.Goals as goal

pub returns-in-Some : goal.returns-in-Some
returns-in-Some c = (
  c.args.line.now,
  [],
  address_split c.args.line.now c.in-Some.address (not_empty c.args.line.now _ c.is_empty.ensures c.if-not-is_empty.true) c.in-Some.ensures.1,
  c.in-Some.ensures.1,
)
