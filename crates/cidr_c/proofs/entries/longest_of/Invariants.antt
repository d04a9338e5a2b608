use Rattle.std.proofs.Common.{take}
use Rattle.cidr_ext.specs.internal.Entries.{IsOneLongest}
use Rattle.cidr_c.specs.model.Special.{has_network}
use Rattle.cidr_c.proofs.entries.longest_of.Given as goal

abbrev pub invariant-loop-entry : goal.invariant-loop-entry
invariant-loop-entry g l = IsOneLongest (has_network g.N.Number.width (g.N.Number.value l.number) l.len) (take l.entry-index l.entries) l.longest
