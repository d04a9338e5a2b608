use Rattle.std.proofs.Common.{◌^◌, ◌+◌, ◌-◌, List, length, map, refl, sym, subst, arith}
use Rattle.std.proofs.lemmas.List.{length-map}
use Rattle.cidr.specs.model.Network.{width_of}
use Rattle.cidr_table.specs.model.Cover.{IsReduced}
use Rattle.cidr_sets.specs.internal.AddressLists.{addresses_in}
use Rattle.cidr_sets.specs.model.Counts.{HaveCount}
use Rattle.cidr_sets.proofs.AddressIndexes.{in_order, index_fits, passed_more, passed_all, passed_few, all_of_them, not_below, are_all, width_fits}
use Rattle.cidr_sets.proofs.set.NetworkSet.address_count.Goals as goal

pub overflow_sub-last : goal.overflow_sub-last
overflow_sub-last g c =
    (in_order (width_of g.C.FamilyCidr.FAMILY) g.C.BitString.bits c.as_slice-network-items.result.now c.loop-network.network-index c.loop-network.count
    c.ends-first.result.0 c.ends-first.result.1 c.network-item.result c.loop-network.invariant c.loop-network-test.true c.network-item.is
    c.ends-first.ensures.fits c.ends-first.ensures.first c.ends-first.ensures.last).0

pub overflow_add-count : goal.overflow_add-count
overflow_add-count g c =
    let reduced = (subst (λ (s : List g.row.C.Denot). IsReduced 129 (map g.C.BitString.bits s)) (sym c.as_slice-network-items.ensures.networks) c.as_slice-network-items.ensures.reduced) in
    let e = in_order (width_of g.C.FamilyCidr.FAMILY) g.C.BitString.bits c.as_slice-network-items.result.now c.loop-network.network-index c.loop-network.count
    c.ends-first.result.0 c.ends-first.result.1 c.network-item.result c.loop-network.invariant c.loop-network-test.true c.network-item.is
    c.ends-first.ensures.fits c.ends-first.ensures.first c.ends-first.ensures.last in
    let high = e.1 in
    let r = index_fits (width_of g.C.FamilyCidr.FAMILY) g.C.BitString.bits c.as_slice-network-items.result.now c.loop-network.network-index c.loop-network.count
    c.ends-first.result.0 c.ends-first.result.1 c.network-item.result c.loop-network.invariant c.loop-network-test.true c.network-item.is
    c.ends-first.ensures.fits c.ends-first.ensures.first c.ends-first.ensures.last reduced in
    let top = width_fits g.C.FamilyCidr.FAMILY in
    omega arith

pub returns-in_err-count : goal.returns-in_err-count
returns-in_err-count g c =
    let w = width_of g.C.FamilyCidr.FAMILY in
    let f = g.C.BitString.bits in
    let xs = c.as_slice-network-items.result.now in
    let reduced = (subst (λ (s : List g.row.C.Denot). IsReduced 129 (map f s)) (sym c.as_slice-network-items.ensures.networks) c.as_slice-network-items.ensures.reduced) in
    let next = c.loop-network.count + (c.ends-first.result.1 - c.ends-first.result.0 + 1) in
    let passed = passed_more (width_of g.C.FamilyCidr.FAMILY) g.C.BitString.bits c.as_slice-network-items.result.now c.loop-network.network-index c.loop-network.count
    c.ends-first.result.0 c.ends-first.result.1 c.network-item.result c.loop-network.invariant c.loop-network-test.true c.network-item.is
    c.ends-first.ensures.fits c.ends-first.ensures.first c.ends-first.ensures.last
    next refl in
    let long = passed_few w (map f xs) (c.loop-network.network-index + 1) next passed in
    rw c.from_residual.ensures (subst (λ (s : List g.row.C.Denot). HaveCount w (map f s) (2 ^ 128)) c.as_slice-network-items.ensures.networks
    (all_of_them g.C.FamilyCidr.FAMILY (map f xs) (addresses_in w (map f xs)) (are_all w (map f xs) reduced)
    (not_below (c.loop-network.count + (c.ends-first.result.1 - c.ends-first.result.0) + 1) next (length (addresses_in w (map f xs))) (omega arith) c.in_err-count.ensures long)))

pub loop-network-preserved : goal.loop-network-preserved
loop-network-preserved g c =
    passed_more (width_of g.C.FamilyCidr.FAMILY) g.C.BitString.bits c.as_slice-network-items.result.now c.loop-network.network-index c.loop-network.count
    c.ends-first.result.0 c.ends-first.result.1 c.network-item.result c.loop-network.invariant c.loop-network-test.true c.network-item.is
    c.ends-first.ensures.fits c.ends-first.ensures.first c.ends-first.ensures.last
    c.in_ok-count.count (omega (arith, c.in_ok-count.ensures.1))

pub returns : goal.returns
returns g c =
    let w = (width_of g.C.FamilyCidr.FAMILY) in
    let f = g.C.BitString.bits in
    let xs = c.as_slice-network-items.result.now in
    let ps = map f xs in
    let reduced = (subst (λ (s : List g.row.C.Denot). IsReduced 129 (map g.C.BitString.bits s)) (sym c.as_slice-network-items.ensures.networks) c.as_slice-network-items.ensures.reduced) in
    subst (λ (s : List g.row.C.Denot). HaveCount w (map f s) c.loop-network.count)
    c.as_slice-network-items.ensures.networks
    (addresses_in w ps, are_all w ps reduced, passed_all w ps c.loop-network.network-index c.loop-network.count (omega (arith, length-map xs f, c.loop-network-test.false)) c.loop-network.invariant)
