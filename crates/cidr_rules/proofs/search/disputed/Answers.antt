use Rattle.std.proofs.Common.{◌∙◌}
use Rattle.cidr_rules.proofs.Pairs.{disputed_both, pair_within, tested}
use Rattle.cidr_rules.proofs.search.disputed.Goals as goal

pub returns-then-not-apart : goal.returns-then-not-apart
returns-then-not-apart g c = λ x si sj. tested _ _ _ _ _ c.permits_from-permitted.ensures c.permits_from-other.ensures c.is_different-apart.ensures ∙ c.if-not-apart.true

pub both-requires : goal.both-requires
both-requires g c =
    let e = tested _ _ _ _ _ c.permits_from-permitted.ensures c.permits_from-other.ensures c.is_different-apart.ensures ∙ c.if-not-apart.false in
    pair_within g.A.FieldValue.number c.args.rules.now c.args.i c.args.others.now c.args.j e

pub returns : goal.returns
returns g c =
    let e = tested _ _ _ _ _ c.permits_from-permitted.ensures c.permits_from-other.ensures c.is_different-apart.ensures ∙ c.if-not-apart.false in
    disputed_both g.A.FieldValue.number c.args.rules.now c.args.i c.args.others.now c.args.j e _ c.both.ensures
