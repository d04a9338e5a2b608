use Rattle.std.proofs.Common.{map, ◌∙◌}
use Rattle.cidr_lists.proofs.RuleTexts.{plain_permits}
use Rattle.cidr_lists.proofs.rules.permitted_by.Goals as goal

pub returns : goal.returns
returns g c =
    plain_permits g.C.BitString.bits (map g.C.BitString.bits) c.args.rules.now c.as_slice.result.now c.permitted.result
    (c.as_slice.ensures.value ∙ c.in_ok-plain.ensures) c.permitted.ensures
