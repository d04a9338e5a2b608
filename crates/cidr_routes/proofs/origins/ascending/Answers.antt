use Rattle.std.proofs.lemmas.List.Filters.{dedup_is}
use Rattle.cidr_routes.proofs.Sorting.{distinct, each_kept}
use Rattle.cidr_routes.proofs.origins.ascending.Goals as goal

pub returns-clause-same : goal.returns-clause-same
returns-clause-same g c =
    each_kept g.T.Ord.cmp g.met.T.Ord.total c.requires g.T.PartialEq.eq g.met.T.Ord.matches_eq g.met.T.Eq.laws
    c.args.values.items c.sort_unstable.new.self.items c.dedup.new.self.items c.sort_unstable.ensures.permutation c.sort_unstable.ensures.sorted
    (dedup_is g.T.PartialEq.eq c.sort_unstable.new.self.items c.dedup.new.self.items c.dedup.ensures.filtered)

pub returns-clause-ascending : goal.returns-clause-ascending
returns-clause-ascending g c =
    distinct g.T.Ord.cmp g.met.T.Ord.total c.requires g.T.PartialEq.eq g.met.T.Ord.matches_eq g.met.T.Eq.laws
    c.args.values.items c.sort_unstable.new.self.items c.dedup.new.self.items c.sort_unstable.ensures.permutation c.sort_unstable.ensures.sorted
    (dedup_is g.T.PartialEq.eq c.sort_unstable.new.self.items c.dedup.new.self.items c.dedup.ensures.filtered)
