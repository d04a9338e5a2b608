use Rattle.std.proofs.Common.{map}
use Rattle.cidr_table.specs.model.Cover.{IsReduced}
use Rattle.cidr_sets.proofs.Joining.{ranges_of_reduced}
use Rattle.cidr_sets.proofs.OneRange.{range_alone}
use Rattle.cidr_sets.proofs.set.NetworkSet.ranges.Goals as goal

pub returns-clause-ranges : goal.returns-clause-ranges
returns-clause-ranges g c =
    let f = g.C.BitString.bits in
    let told = c.as_slice-networks.ensures in
    let xs = c.as_slice-networks.result.now in
    let reduced : IsReduced 129 (map f xs) = rw told.networks told.reduced in
    rw (← told.networks) (ranges_of_reduced g.C.Addressed.first_bits g.C.Addressed.last_bits g.C.Addressed.ends (map f xs) reduced)

pub returns-clause-one_range : goal.returns-clause-one_range
returns-clause-one_range g c first last af al ordered set =
    let f = g.C.BitString.bits in
    let told = c.as_slice-networks.ensures in
    let xs = c.as_slice-networks.result.now in
    let reduced : IsReduced 129 (map f xs) = rw told.networks told.reduced in
    let a = g.C.Addressed in
    range_alone a.IsAddress a.beginless a.complete first last af al (map f xs) (rw told.networks set) a.first_bits a.last_bits a.addresses a.ends ordered
    (ranges_of_reduced a.first_bits a.last_bits a.ends (map f xs) reduced)
