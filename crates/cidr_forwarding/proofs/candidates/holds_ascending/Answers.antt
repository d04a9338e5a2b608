use Rattle.std.proofs.Common.{◌∙◌}
use Rattle.cidr_forwarding.proofs.Sorted.{told_by_search}
use Rattle.cidr_forwarding.proofs.candidates.holds_ascending.Goals as goal

pub returns : goal.returns
returns g c =
    c.is_ok.ensures.value
    ∙ told_by_search g.V.PartialEq.eq g.V.Ord.cmp c.requires.tells g.met.V.Ord.total g.met.V.Ord.matches_eq c.args.values.now c.requires.sorted c.args.wanted
    c.binary_search.result c.binary_search.ensures.bound c.binary_search.ensures.position
