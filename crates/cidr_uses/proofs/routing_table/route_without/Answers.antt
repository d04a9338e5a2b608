use Rattle.std.proofs.Common.{◌≢◌, List, Some, None, IfSome, Option}
use Rattle.std.specs.Prelude.{MatchOption}
use Rattle.cidr_table.specs.model.FiniteMap.{IsRemoved}
use Rattle.cidr_uses.specs.Routing.{IsRoute, HasNoRoute}
use Rattle.cidr_uses.proofs.routing_table.route_without.Goals as goal

-- a route is a row, and no row has the key
other_key : {C V : Type 0} (bits : C → List _) (old routes : List (C × V)) (asked : List _) (key : C) → IsRemoved old key routes → (r : Option (C × V))
    → MatchOption r (HasNoRoute bits routes asked) (λ row. IsRoute bits routes asked row) → IfSome r (λ row. row.0 ≢ key)
other_key bits old routes asked key h None m = tt
other_key bits old routes asked key h (Some row) m = ((h row).0 m.there).0

pub returns-clause-other : goal.returns-clause-other
returns-clause-other g c =
    other_key g.C.BitString.bits c.args.routes.now.rows c.remove.new.self.rows (g.C.BitString.bits c.args.asked.now) c.args.withdrawn.now c.remove.ensures.after
    c.route.result c.route.ensures
