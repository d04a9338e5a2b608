use Rattle.std.proofs.Common.{◌≤◌, arith, map, subst}
use Rattle.cidr.specs.model.Network.{width_of}
use Rattle.cidr.specs.declared.family.Family.{Family}
use Rattle.cidr.specs.declared.family.Family.TheVariants.{Ipv4, Ipv6}
use Rattle.cidr_sets.specs.model.Sets.{IsSetOf}
use Rattle.cidr_routes.specs.Lengths.{AreBegun, IsInOpen}
use Rattle.cidr_routes.proofs.PermitRows.{one_more}
use Rattle.cidr_routes.proofs.joined.next_rows.Goals as goal

fits : (family : Family) → width_of family ≤ 129
fits Ipv4 = omega arith
fits Ipv6 = omega arith

pub returns : goal.returns
returns g c = λ rows set sofar.
    let bits = g.C.BitString.bits in
    let w = width_of g.C.FamilyCidr.FAMILY in
    let mid = c.in_ok-out.out.items in
    let networks = c.args.set.now in
    one_more bits rows c.args.len (omega (arith, c.requires.within, fits g.C.FamilyCidr.FAMILY)) networks set w c.requires.within
    c.args.before.now mid c.begin_rows.new.out.items sofar (map bits c.in_ok-cover.cover) c.in_ok-out.ensures
    (subst (λ rows. IsSetOf 129 (IsInOpen bits w rows) (map bits c.in_ok-cover.cover)) c.as_slice.ensures.value c.in_ok-cover.ensures)
    (subst (λ ns. AreBegun bits w c.args.len ns (map bits c.in_ok-cover.cover) mid c.begin_rows.new.out.items) c.as_slice-2.ensures.networks
    c.in_ok-begin_rows.ensures)
