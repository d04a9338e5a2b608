use Rattle.std.proofs.Common.{◌≡◌, ◌≤◌, arith, rules, false}
use Rattle.std.proofs.option.Match.{if_some, if_none}
use Rattle.cidr.specs.model.Network.{width_of}
use Rattle.cidr.specs.declared.family.Family.{Family}
use Rattle.cidr.specs.declared.family.Family.TheVariants.{Ipv4, Ipv6}
use Rattle.cidr_routes.proofs.Lengths.{some_alone, none_alone, unchanged}
use Rattle.cidr_routes.proofs.lists.difference_at.Goals as goal

fits : (family : Family) → width_of family ≤ 129
fits Ipv4 = omega arith
fits Ipv6 = omega arith

pub permitted_of_length-requires : goal.permitted_of_length-requires
permitted_of_length-requires g c = omega (arith, c.requires, fits g.C.FamilyCidr.FAMILY)

pub permitted_of_length-requires-2 : goal.permitted_of_length-requires-2
permitted_of_length-requires-2 g c = omega (arith, c.requires, fits g.C.FamilyCidr.FAMILY)

pub returns-then-not-are_changed : goal.returns-then-not-are_changed
returns-then-not-are_changed g c =
    let no : c.are_changed.result ≡ false = search (rules, c.if-not-are_changed.true) in
    let e = c.are_changed.ensures in
    unchanged g.C.BitString.bits c.args.these.now c.args.those.now c.args.len (e.some no)
    (omega (arith, c.requires, fits g.C.FamilyCidr.FAMILY)) (e.these no) (e.those no)

pub returns-in-Some : goal.returns-in-Some
returns-in-Some g c =
    let bits = g.C.BitString.bits in
    let e = c.in_ok-network.ensures in
    let le : c.args.len ≤ 129 = omega (arith, c.requires, fits g.C.FamilyCidr.FAMILY) in
    some_alone bits c.args.these.now c.args.those.now c.args.len le _ _ e.0
    c.in_ok-set.ensures c.in_ok-other.ensures e.1 (bits c.in-Some.network) (if_some _ _ _ c.in-Some.is e.2) (width_of g.C.FamilyCidr.FAMILY) c.requires

pub returns-in-Some-network : goal.returns-in-Some-network
returns-in-Some-network g c =
    let bits = g.C.BitString.bits in
    let e = c.in_ok-network-2.ensures in
    let le : c.args.len ≤ 129 = omega (arith, c.requires, fits g.C.FamilyCidr.FAMILY) in
    some_alone bits c.args.those.now c.args.these.now c.args.len le _ _ e.0
    c.in_ok-other.ensures c.in_ok-set.ensures e.1 (bits c.in-Some-network.network) (if_some _ _ _ c.in-Some-network.is e.2) (width_of g.C.FamilyCidr.FAMILY) c.requires

pub returns : goal.returns
returns g c =
    let bits = g.C.BitString.bits in
    let e = c.in_ok-network.ensures in
    let f = c.in_ok-network-2.ensures in
    let le : c.args.len ≤ 129 = omega (arith, c.requires, fits g.C.FamilyCidr.FAMILY) in
    λ below p is. (
      none_alone bits c.args.these.now c.args.those.now c.args.len le _ _ e.0 c.in_ok-set.ensures c.in_ok-other.ensures e.1 (if_none _ _ c.in-None.is e.2) p is,
      none_alone bits c.args.those.now c.args.these.now c.args.len le _ _ f.0 c.in_ok-other.ensures c.in_ok-set.ensures f.1 (if_none _ _ c.in-None-network.is f.2) p is,
    )
