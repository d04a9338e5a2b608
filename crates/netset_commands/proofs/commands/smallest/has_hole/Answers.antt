use Rattle.std.proofs.Common.{codes}
use Rattle.netset_commands.specs.Rows.{kept}
use Rattle.netset_commands.proofs.FewestTold.{in_first, in_second}
use Rattle.netset_commands.proofs.commands.smallest.has_hole.Goals as goal

pub returns-then-has_value : goal.returns-then-has_value
returns-then-has_value c =
    in_first (kept c.args.table.now) (codes "-") c.has_value.result (rw (c.rows_of.ensures, c.as_slice-all.ensures.value) at c.has_value.ensures) c.if-has_value.true

pub returns : goal.returns
returns c =
    in_second (kept c.args.table.now) (codes "-") c.has_value.result (rw (c.rows_of.ensures, c.as_slice-all.ensures.value) at c.has_value.ensures) c.has_value-2.result
    c.if-has_value.false (rw (c.rows_of-2.ensures, c.as_slice-all.ensures.value) at c.has_value-2.ensures)
