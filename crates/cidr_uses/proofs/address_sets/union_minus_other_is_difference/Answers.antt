use Rattle.std.proofs.Common.{map, ◌∙◌}
use Rattle.cidr_uses.proofs.Differences.{union_less}
use Rattle.cidr_uses.proofs.address_sets.union_minus_other_is_difference.Goals as goal

pub returns : goal.returns
returns g c =
    let f = g.C.BitString.bits in
    let rest = c.in_ok-rest.rest in
    let less = c.in_ok-less.less in
    let k = c.in_ok-less.ensures.set in
    let h = union_less 129 (map f c.args.set.now) (map f c.args.other.now) (map f c.in_ok-both.both) (map f rest) c.in_ok-both.ensures.set c.in_ok-rest.ensures.set in
    let same = c.equal_sets_are_equal_lists.ensures 129 (map f rest) (map f less) h.reduced k.reduced (λ a la. (
      λ x. (k.exact a la).1 ((h.exact a la).0 x),
      λ x. (h.exact a la).1 ((k.exact a la).0 x),
    )) in
    c.eq.ensures ∙ (c.equal_sets_are_the_same.ensures.eq rest less).1 (c.equal_sets_are_the_same.ensures.bits rest less same)
