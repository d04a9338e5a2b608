use Rattle.cidr_ext.proofs.Addresses.{position_fits, position_at}
use Rattle.cidr_ext.proofs.numbered.AnyCidrExt.position.Goals as goal

pub overflow_sub-result : goal.overflow_sub-result
overflow_sub-result g c =
    position_fits (g.C.PrivCidr.family_of c.args.self.now) (g.C.Address.PrivUnspecAddress.family_of c.args.address.now)
    (g.C.PrivCidr.family_of c.args.self.now) (g.C.PrivCidr.prefix c.args.self.now)
    (g.C.Address.PrivUnspecAddress.bits c.args.address.now) (g.C.Address.PrivUnspecAddress.bits c.first_address.result)
    c.to_number.result c.to_number-2.result c.contains.result c.contains.ensures c.if-not-contains.false
    c.to_number.ensures.value c.to_number.ensures.width c.first_address.ensures.value c.to_number-2.ensures.value
    c.length_is_within_the_width.ensures

pub returns : goal.returns
returns g c =
    position_at (g.C.PrivCidr.family_of c.args.self.now) (g.C.Address.PrivUnspecAddress.family_of c.args.address.now)
    (g.C.PrivCidr.family_of c.args.self.now) (g.C.PrivCidr.prefix c.args.self.now)
    (g.C.Address.PrivUnspecAddress.bits c.args.address.now) (g.C.Address.PrivUnspecAddress.bits c.first_address.result)
    c.to_number.result c.to_number-2.result c.contains.result c.contains.ensures c.if-not-contains.false
    c.to_number.ensures.value c.to_number.ensures.width c.first_address.ensures.value c.to_number-2.ensures.value
    c.length_is_within_the_width.ensures
