use Rattle.std.proofs.Common.{◌∙◌, map, inl, inr}
use Rattle.cidr_uses.proofs.address_sets.unions_are_equal.Goals as goal

pub returns : goal.returns
returns g c =
    let f = g.C.BitString.bits in
    let union = c.in_ok-union.union in
    let turned = c.in_ok-turned.turned in
    let h = c.in_ok-union.ensures.set in
    let k = c.in_ok-turned.ensures.set in
    let same = c.equal_sets_are_equal_lists.ensures 129 (map f union) (map f turned) h.reduced k.reduced (λ a la. (
      λ x. (k.exact a la).1 (elim ((h.exact a la).0 x) [ inl d ↦ inr d | inr d ↦ inl d ]),
      λ x. (h.exact a la).1 (elim ((k.exact a la).0 x) [ inl d ↦ inr d | inr d ↦ inl d ]),
    )) in
    c.eq.ensures ∙ (c.equal_sets_are_the_same.ensures.eq union turned).1 (c.equal_sets_are_the_same.ensures.bits union turned same)
