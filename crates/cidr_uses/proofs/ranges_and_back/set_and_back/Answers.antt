use Rattle.std.proofs.Common.{◌≡◌, Bool, List, map, ap, ◌∙◌, subst, refl, None}
use Rattle.std.proofs.lemmas.Iterator.Consumers.{YieldsList-end, YieldsList-from_first}
use Rattle.cidr_sets.specs.model.Ranges.{IsInSome}
use Rattle.cidr_sets.specs.model.Sets.{IsSetOf}
use Rattle.cidr_uses.proofs.RangeSets.{one_more}
use Rattle.cidr_uses.proofs.ranges_and_back.set_and_back.Goals as goal

pub loop-range-preserved : goal.loop-range-preserved
loop-range-preserved g c =
    let f = g.C.BitString.bits in
    let bits = g.C.Addressed.address_bits in
    let l = c.loop-range in
    one_more (λ r. (bits r.first, bits r.last)) l.yielded c.in-Some.range (map f l.again) (map f c.in_ok-part.part) (map f c.in_ok-again.again)
    l.invariant c.in_ok-part.ensures.set c.in_ok-again.ensures.set

pub returns : goal.returns
returns g c =
    let f = g.C.BitString.bits in
    let bits = g.C.Addressed.address_bits in
    let l = c.loop-range in
    let told = c.ranges-range-items.ensures in
    let all = (YieldsList-end (YieldsList-from_first (λ r. (bits r.first, bits r.last)) (λ s. s) c.ranges-range-items.result c.into_iter-range-iterator.ensures.into_iter_gives)
    l.yielded l.range-iterator l.yielded_by c.next.result c.next.new.self c.in-None.is c.next.ensures.steps).0 in
    c.equal_sets_are_the_same.ensures.bits l.again c.args.set.now
    (c.sets_are_their_ranges.ensures 129 (map f c.args.set.now) (map f l.again) c.ranges-range-items.result told.reduced told.ranges
    (subst (λ rs. IsSetOf 129 (IsInSome rs) (map f l.again)) all l.invariant))
