use Rattle.std.proofs.Common.{List, Bool, map, subst, sym}
use Rattle.cidr.specs.declared.family.Family.TheVariants.{Ipv4, Ipv6}
use Rattle.cidr_lists.specs.Tables.{resolved}
use Rattle.cidr_lists.specs.declared.rows.Span.{Span}
use Rattle.cidr_table.specs.model.LastRows.{AreLastRows}
use Rattle.netset_commands.proofs.input.tables.SearchedTable.of_rows.Goals as goal

pub returns : goal.returns
returns c =
    let said = resolved c.args.rows.values.items in
    let made = resolved c.of_rows-v4.result.values.items in
    elim [
      | Ipv4 ↦ subst (λ (rows : List (List Bool × Span)). AreLastRows (map said c.args.rows.v4.items) (map made rows)) (sym c.in_ok-v4.ensures) (c.of_rows-v4.ensures Ipv4)
      | Ipv6 ↦ subst (λ (rows : List (List Bool × Span)). AreLastRows (map said c.args.rows.v6.items) (map made rows)) (sym c.in_ok-v6.ensures) (c.of_rows-v4.ensures Ipv6)
    ]
