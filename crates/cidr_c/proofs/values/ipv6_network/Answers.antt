use Rattle.cidr.specs.declared.family.Family.TheVariants.{Ipv6}
use Rattle.cidr_c.proofs.Networks.{from_ok, from_err, ipv6_network, no_ipv6}
use Rattle.cidr_c.proofs.values.ipv6_network.Goals as goal
use Rattle.std.proofs.Common.{arith, ◌-◌}

pub returns-in-Ok : goal.returns-in-Ok
returns-in-Ok c high below =
    ipv6_network c.args.value.now _ c.in-Ok.network (omega (arith, below)) high c.ipv6_in.ensures
    (from_ok Ipv6 c.ipv6_in.result c.in-Ok.network (c.args.value.now.tag - 64) c.in-Ok.ensures.value)

pub returns-in-Err : goal.returns-in-Err
returns-in-Err c high below =
    no_ipv6 c.args.value.now c.ipv6_in.result (omega (arith, below)) high c.ipv6_in.ensures
    (from_err Ipv6 c.ipv6_in.result c.in-Err.field-0 (c.args.value.now.tag - 64) c.in-Err.ensures.value)
