use Rattle.std.proofs.Common.{◌⊎◌, map}
use Rattle.cidr_table.specs.model.Cover.{Covers}
use Rattle.cidr_sets.proofs.Addresses.{set_alike}
use Rattle.cidr_sets.proofs.set.NetworkSet.union.Goals as goal

pub returns-clause-set : goal.returns-clause-set
returns-clause-set g c =
    let f = g.C.BitString.bits in
    let these = map f c.as_slice-these.result.now in
    let those = map f c.as_slice-those.result.now in
    rw (← c.as_slice-these.ensures.networks, ← c.as_slice-those.ensures.networks)
    (set_alike 129 (Covers (map f c.write_merged.new.out.items)) (λ a. Covers these a ⊎ Covers those a) (map f c.joined.result)
    (λ a la. ((c.write_merged.ensures.merge.covers a).1, (c.write_merged.ensures.merge.covers a).0)) c.joined.ensures.set)
