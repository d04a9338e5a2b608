use Rattle.std.proofs.Common.{ap, ◌∙◌}
use Rattle.cidr_table.specs.model.Loading.{placed}
use Rattle.cidr_c.proofs.lookups.indexed_rows.Goals as goal

pub returns-in-Ok : goal.returns-in-Ok
returns-in-Ok c =
    let told = c.in_ok-networks.ensures in (told.0, c.in-Ok.ensures ∙ ap (placed 0) (c.as_slice.ensures.value ∙ told.1))
