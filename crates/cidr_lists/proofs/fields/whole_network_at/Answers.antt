use Rattle.std.proofs.Common.{arith}
use Rattle.cidr_lists.proofs.LineFeeds.{not_empty}
use Rattle.cidr_lists.proofs.PlainTexts.{whole_says}
use Rattle.cidr_lists.proofs.fields.whole_network_at.Goals as goal

pub returns-in-WhiteSpace : goal.returns-in-WhiteSpace
returns-in-WhiteSpace c =
    whole_says c.args.column c.args.line.now c.whole_network.result (omega (arith, c.if-column-gt0.false)) c.in-WhiteSpace.is (not_empty c.args.line.now _ c.is_empty.ensures c.if-is_empty.false)
    c.whole_network.ensures
