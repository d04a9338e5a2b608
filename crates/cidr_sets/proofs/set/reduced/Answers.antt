use Rattle.std.proofs.Common.{map}
use Rattle.std.proofs.lemmas.List.Filters.{dedup_is}
use Rattle.cidr_sets.proofs.Reducing.{distinct, whole}
use Rattle.cidr_sets.proofs.Steps.{ascend_by}
use Rattle.cidr_sets.proofs.set.reduced.Goals as goal

pub joined-requires : goal.joined-requires
joined-requires g c =
    ascend_by g.C.BitString.bits g.C.Ord.cmp g.met.C.NetworkBits.ordered c.dedup.new.self.items
    (distinct g.C.BitString.bits g.C.Ord.cmp g.met.C.Ord.total g.met.C.NetworkBits.ordered g.met.C.NetworkBits.determined
    g.C.PartialEq.eq g.met.C.Ord.matches_eq g.met.C.Eq.laws c.args.networks.items c.sort_unstable.new.self.items
    c.dedup.new.self.items c.sort_unstable.ensures.permutation c.sort_unstable.ensures.sorted
    (dedup_is g.C.PartialEq.eq c.sort_unstable.new.self.items c.dedup.new.self.items c.dedup.ensures.filtered))

pub returns-clause-set : goal.returns-clause-set
returns-clause-set g c =
    whole g.C.BitString.bits g.C.Ord.cmp g.met.C.Ord.total g.met.C.NetworkBits.ordered g.met.C.NetworkBits.determined
    g.C.PartialEq.eq g.met.C.Ord.matches_eq g.met.C.Eq.laws c.args.networks.items c.sort_unstable.new.self.items
    c.dedup.new.self.items c.sort_unstable.ensures.permutation c.sort_unstable.ensures.sorted
    (dedup_is g.C.PartialEq.eq c.sort_unstable.new.self.items c.dedup.new.self.items c.dedup.ensures.filtered)
    (map g.C.BitString.bits c.joined.result) c.joined.ensures.set
