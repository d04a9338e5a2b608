use Rattle.cidr_ext.proofs.NamedNetworks.{subnet_read, read_is}
use Rattle.cidr_ext.proofs.reverse.AnyCidrReverseName.from_reverse_name.Goals as goal

pub returns-clause-only : goal.returns-clause-only
returns-clause-only g c = λ network named.
    read_is g.C.PrivCidr.family_of g.C.PrivCidr.prefix g.met.C.Cidr.known c.subnet.result c.in_ok-family.family c.in_ok-family.number c.in_ok-family.len
    (subnet_read c.in_ok-family.family (g.C.PrivCidr.family_of c.in_ok-all_of.field-0) c.in_ok-family.number c.in_ok-family.len
    (g.C.PrivCidr.prefix c.in_ok-all_of.field-0) c.in_ok-all_of.ensures.0 c.in_ok-all_of.ensures.1 c.in_ok-family.ensures.found.0 c.in_ok-family.ensures.found.1
    g.C.PrivCidr.family_of g.C.PrivCidr.prefix c.subnet.result c.subnet.ensures.value)
    network (c.in_ok-family.ensures.only (g.C.PrivCidr.family_of network) (g.C.PrivCidr.prefix network) named)
