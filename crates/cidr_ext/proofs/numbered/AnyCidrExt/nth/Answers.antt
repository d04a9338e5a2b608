use Rattle.cidr_ext.proofs.Addresses.{address_past, address_at}
use Rattle.cidr_ext.proofs.numbered.AnyCidrExt.nth.Goals as goal

pub returns-then-wraps : goal.returns-then-wraps
returns-then-wraps g c =
    address_past (g.C.PrivCidr.family_of c.args.self.now) (g.C.Address.Inet.PrivInet.family_of c.first.result) (g.C.PrivCidr.prefix c.args.self.now) c.args.index
    (g.C.Address.Inet.PrivInet.host c.first.result) c.overflowing_add-host.result.1 c.first.ensures.family c.first.ensures.value
    c.overflowing_add-host.ensures.wraps c.if-wraps.true

pub returns-else-wraps : goal.returns-else-wraps
returns-else-wraps g c =
    address_at (g.C.PrivCidr.family_of c.args.self.now) (g.C.Address.Inet.PrivInet.family_of c.first.result) (g.C.PrivCidr.prefix c.args.self.now) c.args.index
    (g.C.Address.Inet.PrivInet.host c.first.result) c.overflowing_add-host.result.1 c.first.ensures.family c.first.ensures.value
    c.overflowing_add-host.ensures.wraps c.if-wraps.false
    (g.C.Address.Inet.PrivInet.host c.overflowing_add-host.result.0) (g.C.Address.Inet.PrivInet.family_of c.overflowing_add-host.result.0)
    (g.C.Address.PrivUnspecAddress.family_of c.address.result) (g.C.Address.PrivUnspecAddress.bits c.address.result)
    c.overflowing_add-host.ensures.family c.overflowing_add-host.ensures.stepped c.address.ensures.family c.address.ensures.value
