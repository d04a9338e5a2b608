-- The table of the last rows, and what is found in it.
use Rattle.std.proofs.Common.{ℕ, subst}
use Rattle.cidr_table.specs.model.FiniteMap.{StoredRows}
use Rattle.cidr_table.specs.model.Prefixes.{IsValueLookedUp}
use Rattle.cidr_uses.proofs.next_hops.value_of_rows.Goals as goal

pub returns-clause-value : goal.returns-clause-value
returns-clause-value g c =
    let bits = g.C.BitString.bits in (
      c.from_rows.result.rows,
      c.from_rows.ensures.rows,
      subst (λ (t : StoredRows g.row.C.Denot ℕ). IsValueLookedUp bits (bits c.args.asked.now) t.rows c.value.result) c.in-Ok.ensures.ok c.value.ensures,
    )
