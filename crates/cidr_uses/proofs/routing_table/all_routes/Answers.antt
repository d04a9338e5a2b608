use Rattle.std.proofs.Common.{refl}
use Rattle.cidr_uses.proofs.routing_table.all_routes.Goals as goal

pub returns-clause-rows : goal.returns-clause-rows
returns-clause-rows g c = λ row. let inside = rw c.null.ensures.bits at (c.inside.ensures.rows row) in (λ h. (inside.0 h).0, λ h. inside.1 (h, refl))
