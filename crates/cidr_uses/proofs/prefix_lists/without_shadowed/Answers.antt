use Rattle.std.proofs.Common.{sym, subst}
use Rattle.cidr.specs.model.Network.{width_of}
use Rattle.cidr_routes.specs.PrefixLists.{IsPermitted, IsShadowed}
use Rattle.cidr_uses.proofs.prefix_lists.without_shadowed.Goals as goal

pub loop-rows-preserved : goal.loop-rows-preserved
loop-rows-preserved g c = λ p fits.
    let f = g.C.BitString.bits in
    let w = width_of g.C.FamilyCidr.FAMILY in
    let l = c.loop-rows in
    let here = subst (λ rs. IsShadowed f w rs c.in-Some.index) c.as_slice.ensures.value (rw c.in-Some.is at c.in_ok-found.ensures) in
    let less = c.shadowed_rows_change_nothing.ensures w l.rows.items c.in-Some.index here p fits in
    let same = l.invariant p fits in
    let is = c.remove.ensures.by_index.2 in (
      λ h. same.0 (less.0 (subst (λ rs. IsPermitted f rs p) is h)),
      λ h. subst (λ rs. IsPermitted f rs p) (sym is) (less.1 (same.1 h)),
    )

pub returns-in-None-clause-none : goal.returns-in-None-clause-none
returns-in-None-clause-none g c = λ i s.
    let none = rw c.in-None.is at c.in_ok-found.ensures in
    none i (subst (λ rs. IsShadowed g.C.BitString.bits (width_of g.C.FamilyCidr.FAMILY) rs i) (sym c.as_slice.ensures.value) s)
