use Rattle.std.proofs.Common.{refl}
use Rattle.cidr_table.proofs.Writes.{keys_kept, set_value, value_at}
use Rattle.cidr_table.proofs.table.LpmTable.value_at.Goals as goal

pub invariant_of-self-lent : goal.invariant_of-self-lent
invariant_of-self-lent g c w =
    let rows = c.self.inside.rows.items in
    let within = rw (← c.self.view_is) at c.requires in
    rw (set_value rows c.args.index c.index_mut-row.result.now w within c.index_mut-row.ensures.value, keys_kept rows c.args.index w) c.self.invariant

pub returns : goal.returns
returns g c =
    let rows = c.self.inside.rows.items in
    let within = rw (← c.self.view_is) at c.requires in (
      (refl, λ w. rw (← c.self.view_is, set_value rows c.args.index c.index_mut-row.result.now w within c.index_mut-row.ensures.value)),
      record { writes_back = tt; value = rw (← c.self.view_is) (value_at rows c.args.index c.index_mut-row.result.now within c.index_mut-row.ensures.value) },
    )
