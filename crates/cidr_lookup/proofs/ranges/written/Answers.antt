use Rattle.std.proofs.Common.{refl, subst, arith, ◌+◌, ◌-◌, ◌*◌, ◌^◌, ◌≤◌, length, get_or, map, take}
use Rattle.std.proofs.lemmas.List.{length-map, take-map}
use Rattle.cidr_lookup.specs.Keys.{key_networks}
use Rattle.cidr_lookup.specs.Ranges.{AreMatchRanges}
use Rattle.cidr_lookup.proofs.Numbers.{length_networks}
use Rattle.cidr_lookup.proofs.Written.{are_ranges, one_more}
use Rattle.cidr_lookup.proofs.ranges.written.Goals as goal

pub returns-then-not-goes_on-clause-ranges : goal.returns-then-not-goes_on-clause-ranges
returns-then-not-goes_on-clause-ranges g c =
    let w = g.A.Address.width in
    let f = g.A.Address.value in
    let l = c.loop-pass in
    let networks = key_networks f c.args.keys.now in
    let starts = c.put.new.starts in
    let answers = c.put.new.answers in
    let room : l.count + 1 ≤ 2 * length c.args.keys.now + 1 =
    omega (arith, l.invariant.room, l.invariant.passing.some, l.invariant.passing.places, length_networks f c.args.keys.now) in
    let all =
    one_more w networks c.requires.keys (map f l.starts) l.answers (map f starts) answers l.count l.pass.start (2 ^ w) (get_or l.pass.ends (l.pass.depth - 1) 0)
    l.invariant.edge l.invariant.so_far c.put.ensures.starts c.put.ensures.answers l.invariant.passing.fits (c.if-not-goes_on.ensures.rest refl) in
    subst (λ xs. AreMatchRanges w networks xs (take (l.count + 1) answers)) (take-map f (l.count + 1) starts)
    (are_ranges w networks (map f starts) answers (l.count + 1) c.requires.keys (omega arith)
    (omega (arith, room, length-map l.starts f, c.put.ensures.starts.same)) (omega (arith, room, c.put.ensures.answers.same)) all)

pub loop-pass-preserved : goal.loop-pass-preserved
loop-pass-preserved g c =
    let on = c.if-not-goes_on.ensures in
    let h = c.loop-pass.invariant in
    record {
      passing = on.passing refl;
      so_far = c.put_range-count.ensures.ranges (key_networks g.A.Address.value c.args.keys.now) c.requires.keys h.edge h.so_far (on.further refl) (on.range refl);
      edge = λ _. on.edge refl;
      room = omega (arith, c.put_range-count.ensures.room, on.steps refl, h.room);
    }
