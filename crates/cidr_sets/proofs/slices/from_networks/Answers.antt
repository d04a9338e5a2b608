use Rattle.std.proofs.Common.{◌≤◌, length, map, take, drop, sym, subst, arith}
use Rattle.std.proofs.lemmas.List.{take-append-le}
use Rattle.cidr_table.specs.model.Cover.{Covers}
use Rattle.cidr_sets.specs.model.Sets.{IsSetOf}
use Rattle.cidr_sets.proofs.Addresses.{set_from_cover}
use Rattle.cidr_sets.proofs.Reducing.{distinct, whole}
use Rattle.cidr_sets.proofs.slices.from_networks.Goals as goal

pub least_cover_in_place-requires : goal.least_cover_in_place-requires
least_cover_in_place-requires g c =
    distinct g.C.BitString.bits g.C.Ord.cmp g.met.C.Ord.total g.met.C.NetworkBits.ordered g.met.C.NetworkBits.determined
    g.C.PartialEq.eq g.met.C.Ord.matches_eq g.met.C.Eq.laws c.args.networks.now c.sort_unstable.new.self
    (take c.keep_distinct-count.result c.keep_distinct-count.new.elements)
    c.sort_unstable.ensures.permutation c.sort_unstable.ensures.sorted c.keep_distinct-count.ensures.kept

pub returns-clause-set : goal.returns-clause-set
returns-clause-set g c =
    let f = g.C.BitString.bits in
    let keys = take c.keep_distinct-count.result c.keep_distinct-count.new.elements in
    let n = c.least_cover_in_place.result in
    let out = c.least_cover_in_place.new.networks in
    let size : n ≤ length out = omega (arith, c.least_cover_in_place.ensures.fits, c.least_cover_in_place.auto.networks) in
    whole f g.C.Ord.cmp g.met.C.Ord.total g.met.C.NetworkBits.ordered g.met.C.NetworkBits.determined
    g.C.PartialEq.eq g.met.C.Ord.matches_eq g.met.C.Eq.laws c.args.networks.now c.sort_unstable.new.self keys
    c.sort_unstable.ensures.permutation c.sort_unstable.ensures.sorted c.keep_distinct-count.ensures.kept _
    (subst (λ xs. IsSetOf 129 (Covers (map f keys)) (map f xs))
    (sym (take-append-le n out (drop c.keep_distinct-count.result c.keep_distinct-count.new.elements) size))
    (set_from_cover 129 (map f keys) (map f (take n out)) c.least_cover_in_place.ensures.cover))
