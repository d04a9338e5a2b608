use Rattle.std.proofs.Common.{length}
use Rattle.cidr_lists.proofs.WholeTexts.{ReadUpTo}
use Rattle.cidr_lists.proofs.lists.Lists.of_text.Given as goal

abbrev pub invariant-loop-lists : goal.invariant-loop-lists
invariant-loop-lists l = ReadUpTo l.host_bits l.text l.rest l.number l.lists

abbrev pub decreases-loop-lists : goal.decreases-loop-lists
decreases-loop-lists l = length l.rest
