use Rattle.netset_commands.proofs.Numbering.{has_table}
use Rattle.netset_commands.specs.Numbers.{slices}
use Rattle.netset_commands.specs.Rows.{kept}
use Rattle.netset_commands.proofs.input.numbers.Numbers.of_table.Goals as goal

pub returns-clause-values : goal.returns-clause-values
returns-clause-values c family row m = c.of_values.ensures.values row.1
    (has_table (kept c.args.table.now) (slices c.new-values.result.items) (slices c.push_table.new.values.items) c.in_ok-push_table.ensures family row m)
