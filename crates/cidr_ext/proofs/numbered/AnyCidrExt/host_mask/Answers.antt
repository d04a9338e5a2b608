use Rattle.cidr_ext.proofs.Addresses.{is_made, mask_made}
use Rattle.cidr_ext.proofs.numbered.AnyCidrExt.host_mask.Goals as goal

pub unwrap-requires : goal.unwrap-requires
unwrap-requires g c =
    is_made g.C.PrivCidr.family_of g.C.PrivCidr.prefix (g.C.PrivCidr.family_of c.args.self.now)
    (g.C.Address.Inet.PrivInet.family_of c.among_all.result) (g.C.Address.PrivUnspecAddress.family_of c.first_address-zeros.result)
    (g.C.PrivCidr.prefix c.args.self.now) (g.C.Address.Inet.PrivInet.host c.among_all.result)
    (g.C.Address.PrivUnspecAddress.bits c.first_address-zeros.result) c.network_length.result c.new.result
    c.among_all.ensures.family c.among_all.ensures.host c.first_address-zeros.ensures.value c.first_address-zeros.ensures.family
    c.network_length.ensures.value c.network_length.ensures.fits c.new.ensures.value

pub returns-clause-value : goal.returns-clause-value
returns-clause-value g c =
    mask_made g.C.PrivCidr.family_of g.C.PrivCidr.prefix (g.C.PrivCidr.family_of c.args.self.now)
    (g.C.Address.Inet.PrivInet.family_of c.among_all.result) (g.C.Address.PrivUnspecAddress.family_of c.first_address-zeros.result)
    (g.C.PrivCidr.prefix c.args.self.now) (g.C.Address.Inet.PrivInet.host c.among_all.result)
    (g.C.Address.PrivUnspecAddress.bits c.first_address-zeros.result) c.network_length.result c.new.result
    c.among_all.ensures.family c.among_all.ensures.host c.first_address-zeros.ensures.value c.first_address-zeros.ensures.family
    c.network_length.ensures.value c.network_length.ensures.fits c.new.ensures.value
    c.unwrap.result c.unwrap.ensures c.new.ensures.family (g.C.Address.PrivUnspecAddress.bits c.last_address.result) c.last_address.ensures.value
