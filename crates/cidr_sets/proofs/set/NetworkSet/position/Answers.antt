use Rattle.std.proofs.Common.{◌^◌, ◌+◌, ◌-◌, List, ◌<◌, map, refl, sym, subst, arith, Some}
use Rattle.std.proofs.lemmas.List.{length-map}
use Rattle.cidr.specs.model.Bits.{number}
use Rattle.cidr.specs.model.Network.{width_of}
use Rattle.cidr.specs.laws.BitLaws.{number-lt}
use Rattle.cidr_table.specs.model.Cover.{Covers, IsReduced}
use Rattle.cidr_sets.specs.internal.AddressLists.{addresses_in}
use Rattle.cidr_sets.specs.model.Counts.{IsAtIndex}
use Rattle.cidr_sets.proofs.AddressIndexes.{in_order, index_fits, found, not_there, passed_by, passed_by_none, in_none, are_all, width_fits}
use Rattle.cidr_sets.proofs.set.NetworkSet.position.Goals as goal

pub loop-network-init : goal.loop-network-init
loop-network-init g c = passed_by_none (width_of g.C.FamilyCidr.FAMILY) (map g.C.BitString.bits c.as_slice-network-items.result.now) (g.C.Address.PrivUnspecAddress.bits c.args.address)

pub returns-then-number-first : goal.returns-then-number-first
returns-then-number-first g c =
    let reduced = (subst (λ (s : List g.row.C.Denot). IsReduced 129 (map g.C.BitString.bits s)) (sym c.as_slice-network-items.ensures.networks) c.as_slice-network-items.ensures.reduced) in
    subst (λ (s : List g.row.C.Denot). ¬ (Covers (map g.C.BitString.bits s) (g.C.Address.PrivUnspecAddress.bits c.args.address)))
    c.as_slice-network-items.ensures.networks (not_there (width_of g.C.FamilyCidr.FAMILY) g.C.BitString.bits c.as_slice-network-items.result.now c.loop-network.network-index c.loop-network.before
    c.ends-first.result.0 c.ends-first.result.1 c.network-item.result c.loop-network.invariant.passed c.loop-network-test.true c.network-item.is
    c.ends-first.ensures.fits c.ends-first.ensures.first c.ends-first.ensures.last
    reduced (g.C.Address.PrivUnspecAddress.bits c.args.address) c.to_number-number.result c.to_number-number.ensures.value c.to_number-number.ensures.width
    c.if-number-first.true c.loop-network.invariant.none)

pub overflow_add-result : goal.overflow_add-result
overflow_add-result g c =
    let reduced = (subst (λ (s : List g.row.C.Denot). IsReduced 129 (map g.C.BitString.bits s)) (sym c.as_slice-network-items.ensures.networks) c.as_slice-network-items.ensures.reduced) in
    let e = in_order (width_of g.C.FamilyCidr.FAMILY) g.C.BitString.bits c.as_slice-network-items.result.now c.loop-network.network-index c.loop-network.before
    c.ends-first.result.0 c.ends-first.result.1 c.network-item.result c.loop-network.invariant.passed c.loop-network-test.true c.network-item.is
    c.ends-first.ensures.fits c.ends-first.ensures.first c.ends-first.ensures.last in
    let low = e.0 in
    let high = e.1 in
    let top = width_fits g.C.FamilyCidr.FAMILY in
    let r = index_fits (width_of g.C.FamilyCidr.FAMILY) g.C.BitString.bits c.as_slice-network-items.result.now c.loop-network.network-index c.loop-network.before
    c.ends-first.result.0 c.ends-first.result.1 c.network-item.result c.loop-network.invariant.passed c.loop-network-test.true c.network-item.is
    c.ends-first.ensures.fits c.ends-first.ensures.first c.ends-first.ensures.last reduced in
    omega (arith, c.if-number-first.false, c.if-number-last.true)

pub returns-then-number-last : goal.returns-then-number-last
returns-then-number-last g c =
    let w = (width_of g.C.FamilyCidr.FAMILY) in
    let f = g.C.BitString.bits in
    let xs = c.as_slice-network-items.result.now in
    let reduced = (subst (λ (s : List g.row.C.Denot). IsReduced 129 (map g.C.BitString.bits s)) (sym c.as_slice-network-items.ensures.networks) c.as_slice-network-items.ensures.reduced) in
    subst (λ (s : List g.row.C.Denot). IsAtIndex w (map f s) (c.loop-network.before + (c.to_number-number.result - c.ends-first.result.0)) (Some (g.C.Address.PrivUnspecAddress.bits c.args.address)))
    c.as_slice-network-items.ensures.networks (
      addresses_in w (map f xs),
      are_all w (map f xs) reduced,
      found (width_of g.C.FamilyCidr.FAMILY) g.C.BitString.bits c.as_slice-network-items.result.now c.loop-network.network-index c.loop-network.before
          c.ends-first.result.0 c.ends-first.result.1 c.network-item.result c.loop-network.invariant.passed c.loop-network-test.true c.network-item.is
          c.ends-first.ensures.fits c.ends-first.ensures.first c.ends-first.ensures.last
          reduced (g.C.Address.PrivUnspecAddress.bits c.args.address) c.to_number-number.result c.to_number-number.ensures.value c.to_number-number.ensures.width
          (omega (arith, c.if-number-first.false)) c.if-number-last.true,
    )

pub overflow_sub-before : goal.overflow_sub-before
overflow_sub-before g c =
    (in_order (width_of g.C.FamilyCidr.FAMILY) g.C.BitString.bits c.as_slice-network-items.result.now c.loop-network.network-index c.loop-network.before
    c.ends-first.result.0 c.ends-first.result.1 c.network-item.result c.loop-network.invariant.passed c.loop-network-test.true c.network-item.is
    c.ends-first.ensures.fits c.ends-first.ensures.first c.ends-first.ensures.last).0

pub overflow_add-before-in-loop-network : goal.overflow_add-before-in-loop-network
overflow_add-before-in-loop-network g c =
    let reduced = (subst (λ (s : List g.row.C.Denot). IsReduced 129 (map g.C.BitString.bits s)) (sym c.as_slice-network-items.ensures.networks) c.as_slice-network-items.ensures.reduced) in
    let e = in_order (width_of g.C.FamilyCidr.FAMILY) g.C.BitString.bits c.as_slice-network-items.result.now c.loop-network.network-index c.loop-network.before
    c.ends-first.result.0 c.ends-first.result.1 c.network-item.result c.loop-network.invariant.passed c.loop-network-test.true c.network-item.is
    c.ends-first.ensures.fits c.ends-first.ensures.first c.ends-first.ensures.last in
    let low = e.0 in
    let r = index_fits (width_of g.C.FamilyCidr.FAMILY) g.C.BitString.bits c.as_slice-network-items.result.now c.loop-network.network-index c.loop-network.before
    c.ends-first.result.0 c.ends-first.result.1 c.network-item.result c.loop-network.invariant.passed c.loop-network-test.true c.network-item.is
    c.ends-first.ensures.fits c.ends-first.ensures.first c.ends-first.ensures.last reduced in
    let size = number-lt (g.C.Address.PrivUnspecAddress.bits c.args.address) in
    let top = width_fits g.C.FamilyCidr.FAMILY in
    let below : number (g.C.Address.PrivUnspecAddress.bits c.args.address) < 2 ^ (width_of g.C.FamilyCidr.FAMILY) = subst (λ n. number (g.C.Address.PrivUnspecAddress.bits c.args.address) < 2 ^ n) c.to_number-number.ensures.width size in
    omega (arith, c.if-number-last.false, c.to_number-number.ensures.value)

pub loop-network-preserved : goal.loop-network-preserved
loop-network-preserved g c =
    let reduced = (subst (λ (s : List g.row.C.Denot). IsReduced 129 (map g.C.BitString.bits s)) (sym c.as_slice-network-items.ensures.networks) c.as_slice-network-items.ensures.reduced) in
    passed_by (width_of g.C.FamilyCidr.FAMILY) g.C.BitString.bits c.as_slice-network-items.result.now c.loop-network.network-index c.loop-network.before
    c.ends-first.result.0 c.ends-first.result.1 c.network-item.result c.loop-network.invariant.passed c.loop-network-test.true c.network-item.is
    c.ends-first.ensures.fits c.ends-first.ensures.first c.ends-first.ensures.last
    reduced (g.C.Address.PrivUnspecAddress.bits c.args.address) c.to_number-number.result c.to_number-number.ensures.value c.to_number-number.ensures.width
    (omega (arith, c.if-number-last.false)) (c.loop-network.before + (c.ends-first.result.1 - c.ends-first.result.0 + 1)) refl c.loop-network.invariant.none

pub returns : goal.returns
returns g c =
    let w = (width_of g.C.FamilyCidr.FAMILY) in
    let f = g.C.BitString.bits in
    let xs = c.as_slice-network-items.result.now in
    let ps = map f xs in
    let a = g.C.Address.PrivUnspecAddress.bits c.args.address in
    let reduced = (subst (λ (s : List g.row.C.Denot). IsReduced 129 (map g.C.BitString.bits s)) (sym c.as_slice-network-items.ensures.networks) c.as_slice-network-items.ensures.reduced) in
    subst (λ (s : List g.row.C.Denot). ¬ (Covers (map f s) a))
    c.as_slice-network-items.ensures.networks
    (in_none w ps c.loop-network.network-index c.loop-network.before a c.loop-network.invariant.passed
    (omega (arith, length-map xs f, c.loop-network-test.false)) reduced c.to_number-number.ensures.width c.loop-network.invariant.none)
