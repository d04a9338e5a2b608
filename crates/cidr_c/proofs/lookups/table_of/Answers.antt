use Rattle.std.proofs.Common.{ℕ, List, subst}
use Rattle.cidr.specs.declared.cidr.any.AnyIpCidr.{AnyIpCidr}
use Rattle.cidr_table.specs.model.LastRows.{AreLastRows}
use Rattle.cidr_c.proofs.lookups.table_of.Goals as goal

pub returns : goal.returns
returns c =
    let told = c.in_ok-rows.ensures in
    (told.0, subst (λ (l : List (AnyIpCidr × ℕ)). AreLastRows l c.from_rows.result.rows) told.1 c.from_rows.ensures.rows)
