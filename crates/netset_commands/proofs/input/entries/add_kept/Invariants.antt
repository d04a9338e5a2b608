use Rattle.std.proofs.Common.{take}
use Rattle.netset_commands.specs.Entries.{CopiesEntries}
use Rattle.netset_commands.proofs.input.entries.add_kept.Given as goal

abbrev pub invariant-loop-entry : goal.invariant-loop-entry
invariant-loop-entry g l = CopiesEntries l.fn.file (take l.entry-index l.kept) l.fn.entries.items l.entries.items
