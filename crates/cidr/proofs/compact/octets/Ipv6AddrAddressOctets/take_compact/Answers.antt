-- A host of the other family comes first.
use Rattle.std.proofs.Common.{subst}
use Rattle.cidr.specs.internal.Fronts.{IsFront}
use Rattle.cidr.proofs.compact.octets.Ipv6AddrAddressOctets.take_compact.Goals as goal

pub returns-in-V4 : goal.returns-in-V4
returns-in-V4 c =
    ((_, subst (IsFront c.args.bytes.now) c.in-V4.is c.in_ok-address.ensures, λ e. cc), λ e. cc)
