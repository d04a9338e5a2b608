use Rattle.std.proofs.Common.{◌≡◌, ◌+◌, ◌-◌, List, slice_get, map, sym, ap, ◌∙◌, subst, arith, Some, None}
use Rattle.std.proofs.lemmas.List.{length-map}
use Rattle.std.proofs.lemmas.Option.{slice_get_past}
use Rattle.cidr.specs.model.Network.{width_of}
use Rattle.cidr_table.specs.model.Cover.{IsReduced}
use Rattle.cidr_sets.specs.internal.AddressLists.{addresses_in}
use Rattle.cidr_sets.specs.model.Counts.{IsAtIndex}
use Rattle.cidr_sets.proofs.AddressIndexes.{in_order, at_index, passed_more, passed_all, are_all}
use Rattle.cidr_sets.proofs.set.NetworkSet.nth.Goals as goal

pub overflow_sub-last : goal.overflow_sub-last
overflow_sub-last g c =
    (in_order (width_of g.C.FamilyCidr.FAMILY) g.C.BitString.bits c.as_slice-network-items.result.now c.loop-network.network-index (c.args.index - c.loop-network.left)
    c.ends-first.result.0 c.ends-first.result.1 c.network-item.result c.loop-network.invariant.1 c.loop-network-test.true c.network-item.is
    c.ends-first.ensures.fits c.ends-first.ensures.first c.ends-first.ensures.last).0

pub overflow_sub-left : goal.overflow_sub-left
overflow_sub-left g c =
    (in_order (width_of g.C.FamilyCidr.FAMILY) g.C.BitString.bits c.as_slice-network-items.result.now c.loop-network.network-index (c.args.index - c.loop-network.left)
    c.ends-first.result.0 c.ends-first.result.1 c.network-item.result c.loop-network.invariant.1 c.loop-network-test.true c.network-item.is
    c.ends-first.ensures.fits c.ends-first.ensures.first c.ends-first.ensures.last).0

pub from_number-requires : goal.from_number-requires
from_number-requires g c =
    let e = in_order (width_of g.C.FamilyCidr.FAMILY) g.C.BitString.bits c.as_slice-network-items.result.now c.loop-network.network-index (c.args.index - c.loop-network.left)
    c.ends-first.result.0 c.ends-first.result.1 c.network-item.result c.loop-network.invariant.1 c.loop-network-test.true c.network-item.is
    c.ends-first.ensures.fits c.ends-first.ensures.first c.ends-first.ensures.last in
    let low = e.0 in
    let high = e.1 in
    omega (arith, c.if-left-last.true)

pub returns-then-left-last : goal.returns-then-left-last
returns-then-left-last g c =
    let w = (width_of g.C.FamilyCidr.FAMILY) in
    let f = g.C.BitString.bits in
    let xs = c.as_slice-network-items.result.now in
    let reduced = (subst (λ (s : List g.row.C.Denot). IsReduced 129 (map g.C.BitString.bits s)) (sym c.as_slice-network-items.ensures.networks) c.as_slice-network-items.ensures.reduced) in
    let left = c.loop-network.invariant.0 in
    let index : c.args.index - c.loop-network.left + c.loop-network.left ≡ c.args.index = omega arith in
    subst (λ (s : List g.row.C.Denot). IsAtIndex w (map f s) c.args.index (Some (g.C.Address.PrivUnspecAddress.bits c.from_number.result)))
    c.as_slice-network-items.ensures.networks (
      addresses_in w (map f xs),
      are_all w (map f xs) reduced,
      ap (slice_get (addresses_in w (map f xs))) (sym index)
          ∙ at_index (width_of g.C.FamilyCidr.FAMILY) g.C.BitString.bits c.as_slice-network-items.result.now c.loop-network.network-index (c.args.index - c.loop-network.left)
          c.ends-first.result.0 c.ends-first.result.1 c.network-item.result c.loop-network.invariant.1 c.loop-network-test.true c.network-item.is
          c.ends-first.ensures.fits c.ends-first.ensures.first c.ends-first.ensures.last c.loop-network.left c.if-left-last.true
          ∙ ap (λ t. Some t) (sym c.from_number.ensures),
    )

pub loop-network-preserved : goal.loop-network-preserved
loop-network-preserved g c =
    let e = in_order (width_of g.C.FamilyCidr.FAMILY) g.C.BitString.bits c.as_slice-network-items.result.now c.loop-network.network-index (c.args.index - c.loop-network.left)
    c.ends-first.result.0 c.ends-first.result.1 c.network-item.result c.loop-network.invariant.1 c.loop-network-test.true c.network-item.is
    c.ends-first.ensures.fits c.ends-first.ensures.first c.ends-first.ensures.last in
    let low = e.0 in
    let left = c.loop-network.invariant.0 in (
      omega (arith, c.if-left-last.false),
      passed_more (width_of g.C.FamilyCidr.FAMILY) g.C.BitString.bits c.as_slice-network-items.result.now c.loop-network.network-index (c.args.index - c.loop-network.left)
          c.ends-first.result.0 c.ends-first.result.1 c.network-item.result c.loop-network.invariant.1 c.loop-network-test.true c.network-item.is
          c.ends-first.ensures.fits c.ends-first.ensures.first c.ends-first.ensures.last
          (c.args.index - (c.loop-network.left - (c.ends-first.result.1 - c.ends-first.result.0 + 1))) (omega (arith, c.if-left-last.false)),
    )

pub returns : goal.returns
returns g c =
    let w = (width_of g.C.FamilyCidr.FAMILY) in
    let f = g.C.BitString.bits in
    let xs = c.as_slice-network-items.result.now in
    let ps = map f xs in
    let reduced = (subst (λ (s : List g.row.C.Denot). IsReduced 129 (map g.C.BitString.bits s)) (sym c.as_slice-network-items.ensures.networks) c.as_slice-network-items.ensures.reduced) in
    let left = c.loop-network.invariant.0 in
    let size = passed_all w ps c.loop-network.network-index (c.args.index - c.loop-network.left) (omega (arith, length-map xs f, c.loop-network-test.false)) c.loop-network.invariant.1 in
    subst (λ (s : List g.row.C.Denot). IsAtIndex w (map f s) c.args.index None)
    c.as_slice-network-items.ensures.networks
    (addresses_in w ps, are_all w ps reduced, slice_get_past (addresses_in w ps) c.args.index (omega (arith, size)))
