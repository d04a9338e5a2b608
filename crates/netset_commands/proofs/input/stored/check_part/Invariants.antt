use Rattle.std.proofs.Common.{ℕ, ◌<◌}
use Rattle.cidr_files.specs.Tables.{parts_in, value_in}
use Rattle.cidr_lists.specs.Forms.{Fits}
use Rattle.netset_commands.proofs.input.stored.check_part.Given as goal

abbrev pub invariant-loop-row : goal.invariant-loop-row
invariant-loop-row g l = (i : ℕ) → i < l.row → Fits l.format (value_in (parts_in l.part) i)
