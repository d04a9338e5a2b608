use Rattle.std.proofs.Common.{◌≤◌, length, ap, arith}
use Rattle.cidr.specs.model.Bits.{number}
use Rattle.cidr_rules.proofs.Endpoints.{in_network}
use Rattle.cidr_rules.proofs.addresses.Ipv6CidrEndpoint.addresses.Goals as goal

pub returns : goal.returns
returns c = λ a size.
    let short : length c.args.self.now ≤ 128 = omega arith in
    in_network 128 c.args.self.now a short size (record { first = number c.first_address.result; last = number c.last_address.result })
    (ap number c.first_address.ensures) (ap number c.last_address.ensures)
