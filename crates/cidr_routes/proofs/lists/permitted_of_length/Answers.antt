use Rattle.std.proofs.Common.{map, ◌∙◌}
use Rattle.cidr_routes.proofs.Lengths.{permitted_set}
use Rattle.cidr_routes.proofs.lists.permitted_of_length.Goals as goal

pub returns : goal.returns
returns g c =
    permitted_set g.C.BitString.bits c.args.len c.requires c.args.rows.now c.as_slice.result.now (c.as_slice.ensures.value ∙ c.in_ok-rules.ensures)
    (map g.C.BitString.bits c.in_ok-set.set) c.in_ok-set.ensures
