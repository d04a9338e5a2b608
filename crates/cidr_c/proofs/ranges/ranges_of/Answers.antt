use Rattle.std.proofs.Common.{Bool, List, map, ◌∙◌, sym, subst}
use Rattle.std.proofs.lemmas.Iterator.Consumers.{YieldsList-end, YieldsList-from_first}
use Rattle.cidr.specs.either.IpAddress.{ip_address_bits}
use Rattle.cidr.specs.either.IpNetwork.{any_bits}
use Rattle.cidr_table.specs.model.Cover.{Covers}
use Rattle.cidr_sets.specs.model.Ranges.{AreRanges}
use Rattle.cidr_c.proofs.Listed.{range_more}
use Rattle.cidr_c.proofs.ranges.ranges_of.Goals as goal

pub loop-range-preserved : goal.loop-range-preserved
loop-range-preserved c =
    let l = c.loop-range in
    rw c.in_ok-push.ensures.items
    (range_more l.ranges.items c.range_of.result l.yielded c.in-Some.range l.invariant c.range_of.ensures.is_range c.range_of.ensures.ends)

pub returns : goal.returns
returns c =
    let l = c.loop-range in
    let told = c.ranges-range-items.ensures in
    let all = (YieldsList-end (YieldsList-from_first (λ r. (ip_address_bits r.first, ip_address_bits r.last)) (λ s. s) c.ranges-range-items.result c.into_iter-range-iterator.ensures.into_iter_gives)
    l.yielded l.range-iterator l.yielded_by c.next.result c.next.new.self c.in-None.is c.next.ensures.steps).0 in
    (l.invariant.0, subst (λ (rs : List (List Bool × List Bool)). AreRanges 129 (Covers (map any_bits c.args.set.now)) rs) (sym (l.invariant.1 ∙ all)) told.ranges)
