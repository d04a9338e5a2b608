-- A host of the other family comes first.
use Rattle.std.proofs.Common.{subst}
use Rattle.cidr.specs.internal.Fronts.{IsFront}
use Rattle.cidr.proofs.compact.octets.Ipv4AddrAddressOctets.take_compact.Goals as goal

pub returns-in-V6 : goal.returns-in-V6
returns-in-V6 c =
    ((_, subst (IsFront c.args.bytes.now) c.in-V6.is c.in_ok-address.ensures, λ e. cc), λ e. cc)
