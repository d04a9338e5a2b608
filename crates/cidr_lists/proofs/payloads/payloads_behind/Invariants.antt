use Rattle.std.proofs.Common.{length}
use Rattle.cidr_lists.proofs.PayloadTexts.{PayloadsUpTo}
use Rattle.cidr_lists.proofs.payloads.payloads_behind.Given as goal

abbrev pub invariant-loop-lists : goal.invariant-loop-lists
invariant-loop-lists l = PayloadsUpTo l.layout l.text l.rest l.number l.lists

abbrev pub decreases-loop-lists : goal.decreases-loop-lists
decreases-loop-lists l = length l.rest
