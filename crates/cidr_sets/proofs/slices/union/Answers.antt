use Rattle.std.proofs.Common.{◌⊎◌, ◌≤◌, length, map, take, drop, sym, subst, arith}
use Rattle.std.proofs.lemmas.List.{take-append-le}
use Rattle.cidr_table.specs.model.Cover.{Covers}
use Rattle.cidr_sets.specs.model.Sets.{IsUnion}
use Rattle.cidr_sets.proofs.Addresses.{set_alike, set_from_cover}
use Rattle.cidr_sets.proofs.Steps.{sorted_by}
use Rattle.cidr_sets.proofs.slices.union.Goals as goal

pub least_cover_in_place-requires : goal.least_cover_in_place-requires
least_cover_in_place-requires g c =
    sorted_by g.C.BitString.bits g.C.Ord.cmp g.met.C.NetworkBits.ordered (take c.merge-count.result c.merge-count.new.out)
    c.merge-count.ensures.merge.ascend

pub returns-clause-set : goal.returns-clause-set
returns-clause-set g c =
    let f = g.C.BitString.bits in
    let these = map f c.args.these.now in
    let those = map f c.args.those.now in
    let keys = map f (take c.merge-count.result c.merge-count.new.out) in
    let n = c.least_cover_in_place.result in
    let out = c.least_cover_in_place.new.networks in
    let size : n ≤ length out = omega (arith, c.least_cover_in_place.ensures.fits, c.least_cover_in_place.auto.networks) in
    subst (λ xs. IsUnion 129 these those (map f xs))
    (sym (take-append-le n out (drop c.merge-count.result c.merge-count.new.out) size))
    (set_alike 129 (Covers keys) (λ a. Covers these a ⊎ Covers those a) (map f (take n out))
    (λ a la. ((c.merge-count.ensures.merge.covers a).1, (c.merge-count.ensures.merge.covers a).0))
    (set_from_cover 129 keys (map f (take n out)) c.least_cover_in_place.ensures.cover))
