use Rattle.netset_commands.proofs.Numbering.{has_table, has_still}
use Rattle.netset_commands.specs.Numbers.{slices, table_values}
use Rattle.netset_commands.specs.Rows.{kept}
use Rattle.netset_commands.proofs.input.numbers.Numbers.of_tables.Goals as goal

pub returns-clause-values : goal.returns-clause-values
returns-clause-values c family row m =
    let table = kept c.args.one.now in
    let first = slices c.push_table.new.values.items in
    c.of_values.ensures.values row.1 (has_still table first (table_values (kept c.args.other.now)) (slices c.push_table-2.new.values.items)
    (has_table table (slices c.new-values.result.items) first c.in_ok-push_table.ensures) c.in_ok-push_table-2.ensures family row m)

pub returns-clause-others : goal.returns-clause-others
returns-clause-others c family row m = c.of_values.ensures.values row.1
    (has_table (kept c.args.other.now) (slices c.push_table.new.values.items) (slices c.push_table-2.new.values.items) c.in_ok-push_table-2.ensures family row m)
