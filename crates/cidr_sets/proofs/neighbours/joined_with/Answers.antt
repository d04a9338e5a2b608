use Rattle.std.proofs.Common.{◌≡◌, ◌-◌, take, drop, map, sym, ap, ◌∙◌, subst}
use Rattle.cidr_table.specs.model.Cover.{parent}
use Rattle.cidr_sets.specs.internal.Edits.{IsAlone}
use Rattle.cidr_sets.proofs.Edits.{IsJoined, joined_more, joined_none, joined_set}
use Rattle.cidr_sets.proofs.Joining.{by_none}
use Rattle.cidr_sets.proofs.neighbours.joined_with.Goals as goal

pub loop-from-init : goal.loop-from-init
loop-from-init g c =
    let f = g.C.BitString.bits in
    record {
      order = c.inside_of-start.ensures.order;
      within = c.inside_of-start.ensures.within;
      joined = joined_none (map f c.args.networks.now) (f c.args.network.now) _ _ c.inside_of-start.ensures.parted c.requires.apart;
    }

pub loop-from-preserved : goal.loop-from-preserved
loop-from-preserved g c =
    let f = g.C.BitString.bits in
    let l = c.loop-from in
    let s = map f c.args.networks.now in
    let q = f l.whole in
    let told = c.in-Some.ensures.beside in
    let is : f c.clip.new.self ≡ parent q = c.clip.ensures.bits ∙ ap (λ k. take (k - 1) q) c.len-len.ensures.value in
    record {
      order = c.in-Some.ensures.order;
      within = c.in-Some.ensures.within;
      joined = subst (λ r. IsJoined s (f c.args.network.now) r (map f (take c.in-Some.from c.args.networks.now)) (map f (drop c.in-Some.to c.args.networks.now)))
          (sym is)
          (joined_more s c.requires.reduced (f c.args.network.now) c.has_at_most_129_bits.ensures q _ _ _ _ told.0 l.invariant.joined told.1);
    }

pub returns-clause-set : goal.returns-clause-set
returns-clause-set g c =
    let f = g.C.BitString.bits in
    let l = c.loop-from in
    let xs = c.args.networks.now in
    let these = map f (take l.start xs) in
    let those = map f (drop l.end xs) in
    joined_set (map f xs) c.requires.reduced (f c.args.network.now) c.has_at_most_129_bits.ensures (f l.whole) these those l.invariant.joined
    (by_none c.other_half.result (IsAlone (f l.whole) these those) _ c.in_default.not-Some c.other_half.ensures.beside)
