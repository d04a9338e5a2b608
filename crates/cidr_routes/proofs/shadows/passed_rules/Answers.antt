use Rattle.std.proofs.Common.{◌↔◌, map, ◌∙◌, subst}
use Rattle.std.specs.List.{Contains}
use Rattle.cidr_sets.specs.model.FirstRules.{IsShadowed}
use Rattle.cidr_routes.proofs.shadows.passed_rules.Goals as goal

pub returns-clause-indices : goal.returns-clause-indices
returns-clause-indices g c = λ j.
    subst (λ rules. Contains c.in_ok-passed.passed.items j ↔ IsShadowed 129 (map (λ r. g.C.BitString.bits r.network) rules) j)
    (c.as_slice.ensures.value ∙ c.in_ok-rules.ensures) (c.in_ok-passed.ensures.indices j)
