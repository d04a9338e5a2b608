use Rattle.std.proofs.Common.{◌≤◌, ◌<◌, length, take, map, ◌-◌, ◌∙◌, refl, arith, length-take}
use Rattle.std.proofs.lemmas.List.{length-set, length-map, drop-set-lt}
use Rattle.std.proofs.lemmas.Bool.Decides.{not_from_Decides}
use Rattle.cidr_table.specs.internal.CoverStack.{AreHalvesInOrder}
use Rattle.cidr_table.proofs.Passing.{merging_none, merging_done, two_read, clipped_is, still_merging}
use Rattle.cidr_table.proofs.Stacks.{last_two, closed_alone, closed_apart}
use Rattle.cidr_table.proofs.Offsets.{offset_fits}
use Rattle.cidr_table.proofs.table.cover.merge.Goals as goal

pub loop-n-init : goal.loop-n-init
loop-n-init g c =
    record {
      fewer = omega arith;
      places = refl;
      rest = refl;
      merging = merging_none 129
          (map g.C.BitString.bits (take c.args.count c.args.out.now)) c.requires.pushed;
    }

pub are_halves-requires : goal.are_halves-requires
are_halves-requires g c =
    let f = g.C.BitString.bits in
    let out = c.loop-n.out in
    let n = c.loop-n.n in
    let h = c.loop-n.invariant in
    let u = c.index-out-n.result in
    let v = c.index-out-n-in-loop-n.result in
    let within : n ≤ length out = omega (arith, h.fewer, h.places, c.requires.within) in
    last_two 129 (map f (take n out)) h.merging.pushed (map f (take (n - 2) out)) (f u) (f v)
    (two_read f out n c.loop-n-test.true within u v c.index-out-n.is c.index-out-n-in-loop-n.is)

pub returns-after-loop-n-clause-cover : goal.returns-after-loop-n-clause-cover
returns-after-loop-n-clause-cover g c =
    let f = g.C.BitString.bits in
    let s = map f (take c.loop-n.n c.loop-n.out) in
    let old = map f (take c.args.count c.args.out.now) in
    let m = c.loop-n.invariant.merging in
    let few : length s < 2 = omega (
      arith,
      c.loop-n-test.false,
      length-map
          (take c.loop-n.n c.loop-n.out) f,
      length-take c.loop-n.n c.loop-n.out,
    ) in
    merging_done 129 old s m (closed_alone 129 s m.pushed few)

pub returns-else-are_halves-clause-cover : goal.returns-else-are_halves-clause-cover
returns-else-are_halves-clause-cover g c =
    let f = g.C.BitString.bits in
    let out = c.loop-n.out in
    let n = c.loop-n.n in
    let h = c.loop-n.invariant in
    let s = map f (take n out) in
    let old = map f (take c.args.count c.args.out.now) in
    let u = c.index-out-n.result in
    let v = c.index-out-n-in-loop-n.result in
    let within : n ≤ length out = omega (arith, h.fewer, h.places, c.requires.within) in
    let ends = two_read f out n c.loop-n-test.true within u v c.index-out-n.is c.index-out-n-in-loop-n.is in
    let apart : ¬ (AreHalvesInOrder (f u) (f v)) =
    not_from_Decides c.are_halves.result c.are_halves.ensures c.if-are_halves.false in
    merging_done 129 old s h.merging (closed_apart 129 s h.merging.pushed (map f (take (n - 2) out)) (f u)
    (f v) ends apart)

pub loop-n-preserved : goal.loop-n-preserved
loop-n-preserved g c =
    let f = g.C.BitString.bits in
    let out = c.loop-n.out in
    let n = c.loop-n.n in
    let h = c.loop-n.invariant in
    let u = c.index-out-n.result in
    let v = c.index-out-n-in-loop-n.result in
    let s = c.index-out-n-in-loop-n-2.result in
    let t = c.index-out-n-in-loop-n-3.result in
    let x = c.clip.new.self in
    let old = map f (take c.args.count c.args.out.now) in
    let within : n ≤ length out = omega (arith, h.fewer, h.places, c.requires.within) in
    let clipped = clipped_is f out n c.loop-n-test.true within u s t x
    c.len-len.result c.index-out-n.is c.len-len.ensures.value c.clip.ensures.bits in
    let halves = c.are_halves.ensures.0 c.if-are_halves.true in
    record {
      fewer = omega (arith, h.fewer);
      places = length-set out (n - 2) x ∙ h.places;
      rest = drop-set-lt c.args.count out (n - 2) x (omega (arith, h.fewer, c.loop-n-test.true)) ∙ h.rest;
      merging = still_merging f out n c.loop-n-test.true within 129 old h.merging u v x
          c.index-out-n.is c.index-out-n-in-loop-n.is halves clipped;
    }

pub bounds-out-n : goal.bounds-out-n
bounds-out-n g c = omega (arith, c.loop-n.invariant.fewer, c.loop-n.invariant.places, c.requires.within)

pub bounds-out-n-in-loop-n : goal.bounds-out-n-in-loop-n
bounds-out-n-in-loop-n g c = omega (arith, c.loop-n.invariant.fewer, c.loop-n.invariant.places, c.requires.within)

pub bounds-out-n-in-loop-n-2 : goal.bounds-out-n-in-loop-n-2
bounds-out-n-in-loop-n-2 g c = omega (arith, c.loop-n.invariant.fewer, c.loop-n.invariant.places, c.requires.within)

pub bounds-out-n-in-loop-n-3 : goal.bounds-out-n-in-loop-n-3
bounds-out-n-in-loop-n-3 g c = omega (arith, c.loop-n.invariant.fewer, c.loop-n.invariant.places, c.requires.within)

pub overflow_sub-n-in-loop-n : goal.overflow_sub-n-in-loop-n
overflow_sub-n-in-loop-n g c = omega arith

pub overflow_sub-n-in-loop-n-4 : goal.overflow_sub-n-in-loop-n-4
overflow_sub-n-in-loop-n-4 g c = omega arith

pub loop-n-smaller : goal.loop-n-smaller
loop-n-smaller g c = omega arith

pub returns-else-are_halves-clause-fewer : goal.returns-else-are_halves-clause-fewer
returns-else-are_halves-clause-fewer g c = omega arith

pub offset_bounds-out-n : goal.offset_bounds-out-n
offset_bounds-out-n g c = offset_fits _ (c.loop-n.n - 2) (length c.args.out.now) c.well_formed.0.1 (omega (arith, c.loop-n.invariant.fewer, c.requires.within))

pub offset_bounds-out-n-in-loop-n : goal.offset_bounds-out-n-in-loop-n
offset_bounds-out-n-in-loop-n g c = offset_fits _ (c.loop-n.n - 1) (length c.args.out.now) c.well_formed.0.1 (omega (arith, c.loop-n.invariant.fewer, c.requires.within))

pub offset_bounds-out-n-in-loop-n-2 : goal.offset_bounds-out-n-in-loop-n-2
offset_bounds-out-n-in-loop-n-2 g c = offset_fits _ (c.loop-n.n - 2) (length c.args.out.now) c.well_formed.0.1 (omega (arith, c.loop-n.invariant.fewer, c.requires.within))

pub offset_bounds-out-n-in-loop-n-3 : goal.offset_bounds-out-n-in-loop-n-3
offset_bounds-out-n-in-loop-n-3 g c = offset_fits _ (c.loop-n.n - 2) (length c.args.out.now) c.well_formed.0.1 (omega (arith, c.loop-n.invariant.fewer, c.requires.within))
