use Rattle.std.proofs.Common.{◌≤◌, length, take, drop, map, sym, ◌∙◌, subst, arith}
use Rattle.std.specs.List.Sorted.{IsStrictlySortedBy}
use Rattle.cidr_table.specs.model.Cover.{Covers, IsLeastCover}
use Rattle.cidr_sets.specs.model.Sets.{IsSetOf}
use Rattle.cidr_sets.proofs.Addresses.{set_from_cover}
use Rattle.cidr_sets.proofs.Reducing.{front}
use Rattle.cidr_sets.proofs.Steps.{sorted_by}
use Rattle.cidr_sets.proofs.set.joined.Goals as goal

pub least_cover_in_place-count-requires : goal.least_cover_in_place-count-requires
least_cover_in_place-count-requires g c =
    subst (IsStrictlySortedBy g.C.Ord.cmp) (sym c.as_mut_slice.ensures.value)
    (sorted_by g.C.BitString.bits g.C.Ord.cmp g.met.C.NetworkBits.ordered c.args.networks.items c.requires)

pub returns-clause-set : goal.returns-clause-set
returns-clause-set g c =
    let f = g.C.BitString.bits in
    let n = c.least_cover_in_place-count.result in
    let out = c.least_cover_in_place-count.new.networks in
    let zs = c.args.networks.items in
    let size : n ≤ length out = omega (arith, c.least_cover_in_place-count.ensures.fits) in
    let fits : n ≤ c.args.networks.len = omega (arith, c.least_cover_in_place-count.ensures.fits, c.as_mut_slice.ensures.value, c.as_mut_slice.ensures.len, c.args.networks.ok.0) in
    let left = c.truncate.ensures.items ∙ front n c.args.networks.len out (drop (length out) zs) fits size in
    let cover : IsLeastCover 129 (map f zs) (map f (take n out)) =
    subst (λ l. IsLeastCover 129 (map f l) (map f (take n out))) c.as_mut_slice.ensures.value c.least_cover_in_place-count.ensures.cover in
    subst (λ l. IsSetOf 129 (Covers (map f zs)) (map f l)) (sym left) (set_from_cover 129 (map f zs) (map f (take n out)) cover)

pub invariant_of-result : goal.invariant_of-result
invariant_of-result g c = (returns-clause-set g c).reduced
