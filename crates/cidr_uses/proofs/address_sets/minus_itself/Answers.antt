use Rattle.std.proofs.Common.{[], map}
use Rattle.cidr_uses.proofs.address_sets.minus_itself.Goals as goal

pub returns : goal.returns
returns g c =
    let h = c.in_ok-rest.ensures.set in
    c.equal_sets_are_the_same.ensures.bits c.in_ok-rest.rest [] (c.sets_without_addresses_are_empty.ensures 129
    (map g.C.BitString.bits c.in_ok-rest.rest) h.reduced (λ a la x. let k = (h.exact a la).0 x in k.1 k.0))
