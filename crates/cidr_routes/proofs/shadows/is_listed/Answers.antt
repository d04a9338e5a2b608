use Rattle.std.proofs.Common.{sym, subst}
use Rattle.std.specs.Bool.{Decides}
use Rattle.std.specs.List.{Contains}
use Rattle.cidr_routes.proofs.DecidingRows.{found}
use Rattle.cidr_routes.proofs.shadows.is_listed.Goals as goal

pub returns : goal.returns
returns c =
    subst (λ b. Decides b (Contains c.args.numbers.now c.args.number)) (sym c.is_ok.ensures.value)
    (found c.args.numbers.now c.args.number c.binary_search.result c.binary_search.ensures.position c.requires)
