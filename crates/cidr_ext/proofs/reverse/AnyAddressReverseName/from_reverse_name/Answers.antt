use Rattle.std.proofs.Common.{◌∙◌}
use Rattle.cidr_ext.proofs.NamedNetworks.{address_read, network_named, read_is}
use Rattle.cidr_ext.proofs.reverse.AnyAddressReverseName.from_reverse_name.Goals as goal

pub returns-clause-only : goal.returns-clause-only
returns-clause-only g c = λ address named.
    read_is g.A.PrivUnspecAddress.family_of g.A.PrivUnspecAddress.bits g.met.A.Address.known c.nth.result c.in_ok-family.family c.in_ok-family.number c.in_ok-family.len
    (address_read c.in_ok-family.family (g.A.Cidr.PrivCidr.family_of c.in_ok-all_of.field-0) c.in_ok-family.number c.in_ok-family.len
    (g.A.Cidr.PrivCidr.prefix c.in_ok-all_of.field-0) c.in_ok-all_of.ensures.0 c.in_ok-all_of.ensures.1 c.in_ok-family.ensures.found.0 c.in_ok-family.ensures.found.1
    g.A.PrivUnspecAddress.family_of g.A.PrivUnspecAddress.bits c.nth.result (c.if-len.false ∙ c.len.ensures) c.nth.ensures)
    address (c.in_ok-family.ensures.only (g.A.PrivUnspecAddress.family_of address) (g.A.PrivUnspecAddress.bits address) (network_named _ _ _ named))
