use Rattle.std.proofs.Common.{arith}
use Rattle.cidr_ext.proofs.Neighbours.{is_first, previous_made}
use Rattle.cidr_ext.proofs.numbered.AnyCidrExt.previous_network.Goals as goal

pub returns-then-wraps : goal.returns-then-wraps
returns-then-wraps g c =
    is_first g.C.PrivCidr.family_of g.C.PrivCidr.prefix (g.C.PrivCidr.family_of c.args.self.now) (g.C.PrivCidr.prefix c.args.self.now)
    (omega (arith, c.network_length-len.ensures.value, c.network_length-len.ensures.fits)) c.in_ok-step.step
    (g.C.Address.Inet.PrivInet.host c.among_all.result) (g.C.Address.Inet.PrivInet.host c.overflowing_sub-host.result.0)
    (g.C.Address.Inet.PrivInet.family_of c.among_all.result) (g.C.Address.Inet.PrivInet.family_of c.overflowing_sub-host.result.0)
    (g.C.PrivCidr.family_of c.args.self.now) c.overflowing_sub-host.result.1
    c.in_ok-step.ensures c.among_all.ensures.family c.among_all.ensures.host c.overflowing_sub-host.ensures.family
    c.overflowing_sub-host.ensures.wraps c.if-wraps.true

pub returns : goal.returns
returns g c =
    previous_made g.C.PrivCidr.family_of g.C.PrivCidr.prefix (g.C.PrivCidr.family_of c.args.self.now) (g.C.PrivCidr.prefix c.args.self.now)
    (omega (arith, c.network_length-len.ensures.value, c.network_length-len.ensures.fits)) c.in_ok-step.step
    (g.C.Address.Inet.PrivInet.host c.among_all.result) (g.C.Address.Inet.PrivInet.host c.overflowing_sub-host.result.0)
    (g.C.Address.Inet.PrivInet.family_of c.among_all.result) (g.C.Address.Inet.PrivInet.family_of c.overflowing_sub-host.result.0)
    (g.C.Address.PrivUnspecAddress.family_of c.address.result) c.overflowing_sub-host.result.1
    c.in_ok-step.ensures c.among_all.ensures.family c.among_all.ensures.host c.overflowing_sub-host.ensures.family
    c.network_length-len.result (g.C.Address.PrivUnspecAddress.bits c.address.result) c.new.result c.ok.result
    c.network_length-len.ensures.value c.overflowing_sub-host.ensures.stepped c.overflowing_sub-host.ensures.wraps c.if-wraps.false
    c.address.ensures.family c.address.ensures.value c.new.ensures.value c.new.ensures.family c.ok.ensures.value
