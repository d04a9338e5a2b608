use Rattle.std.proofs.Common.{refl}
use Rattle.cidr.specs.declared.family.Family.TheVariants.{Ipv4, Ipv6}
use Rattle.cidr_lists.proofs.Resolved.{table_rows}
use Rattle.netset_commands.proofs.input.tables.PlainTable.of_rows.Goals as goal

pub returns : goal.returns
returns c = elim [
  | Ipv4 ↦ table_rows c.args.rows.values.items c.args.rows.v4.items c.from_rows.result c.from_rows.result c.from_rows.ensures.rows refl
  | Ipv6 ↦ table_rows c.args.rows.values.items c.args.rows.v6.items c.from_rows-2.result c.from_rows-2.result c.from_rows-2.ensures.rows refl
]
