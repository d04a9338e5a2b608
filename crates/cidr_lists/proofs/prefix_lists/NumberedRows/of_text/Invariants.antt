use Rattle.std.proofs.Common.{length}
use Rattle.cidr_lists.proofs.PrefixTexts.{RowsUpTo}
use Rattle.cidr_lists.proofs.prefix_lists.NumberedRows.of_text.Given as goal

abbrev pub invariant-loop-rows : goal.invariant-loop-rows
invariant-loop-rows l = RowsUpTo l.name l.text l.rest l.number l.rows l.about

abbrev pub decreases-loop-rows : goal.decreases-loop-rows
decreases-loop-rows l = length l.rest
