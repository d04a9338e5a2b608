use Rattle.std.proofs.Common.{refl}
use Rattle.cidr_ext.proofs.Found.{multicast4, multicast6}
use Rattle.cidr_ext.proofs.special.SpecialAddress.is_multicast.Goals as goal

pub returns-in-Ipv4 : goal.returns-in-Ipv4
returns-in-Ipv4 g c =
    multicast4 c.family.result (g.Self.PrivUnspecAddress.family_of c.args.self) (g.Self.PrivUnspecAddress.bits c.args.self) c.to_number.result _ c.in-Ipv4.is c.family.ensures
    c.to_number.ensures.width c.to_number.ensures.value refl

pub returns-in-Ipv6 : goal.returns-in-Ipv6
returns-in-Ipv6 g c =
    multicast6 c.family.result (g.Self.PrivUnspecAddress.family_of c.args.self) (g.Self.PrivUnspecAddress.bits c.args.self) c.to_number-in-Ipv6.result _ c.in-Ipv6.is c.family.ensures
    c.to_number-in-Ipv6.ensures.width c.to_number-in-Ipv6.ensures.value refl
