use Rattle.std.proofs.Common.{refl, arith, inr}
use Rattle.cidr_uses.proofs.address_sets.used_has_first_free.Goals as goal

pub returns : goal.returns
returns g c =
    let p = g.C.BitString.bits c.in-Some.network in
    let h = c.in_ok-insert.ensures.ok in
    c.contains.ensures.addresses.1 (λ a la b. (h.exact a la).1 (inr (p, (0, omega arith, refl), b)))
