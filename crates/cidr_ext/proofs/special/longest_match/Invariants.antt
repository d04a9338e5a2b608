use Rattle.std.proofs.Common.{take}
use Rattle.cidr_ext.specs.internal.Entries.{IsOneLongest, has_block}
use Rattle.cidr_ext.proofs.special.longest_match.Given as goal

abbrev pub invariant-loop-entry : goal.invariant-loop-entry
invariant-loop-entry l = IsOneLongest (has_block l.width l.number) (take l.entry-index l.entries) l.longest
