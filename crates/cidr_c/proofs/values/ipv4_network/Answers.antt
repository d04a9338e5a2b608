use Rattle.cidr.specs.declared.family.Family.TheVariants.{Ipv4}
use Rattle.cidr_c.proofs.Networks.{from_ok, from_err, ipv4_network, no_ipv4}
use Rattle.cidr_c.proofs.values.ipv4_network.Goals as goal

pub returns-in-Ok : goal.returns-in-Ok
returns-in-Ok c low =
    let told = c.in_ok-address.ensures in
    ipv4_network c.args.value.now _ c.in-Ok.network low told.0 told.1
    (from_ok Ipv4 c.in_ok-address.address c.in-Ok.network c.args.value.now.tag c.in-Ok.ensures.value)

pub returns-in-Err : goal.returns-in-Err
returns-in-Err c low =
    let told = c.in_ok-address.ensures in
    no_ipv4 c.args.value.now c.in_ok-address.address low told.1
    (from_err Ipv4 c.in_ok-address.address c.in-Err.field-0 c.args.value.now.tag c.in-Err.ensures.value)
