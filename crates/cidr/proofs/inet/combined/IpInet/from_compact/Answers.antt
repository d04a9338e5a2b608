-- Reading a host of either family: each way out of the reader.
use Rattle.std.proofs.Common.{subst}
use Rattle.cidr.specs.internal.Fronts.{IsFront}
use Rattle.cidr.proofs.CompactEither.{ip_host_reads4, ip_host_reads6, ip_host_unreadable}
use Rattle.cidr.proofs.inet.combined.IpInet.from_compact.Goals as goal

pub returns-in-Err : goal.returns-in-Err
returns-in-Err c = ip_host_unreadable c.args.bytes.now _ c.in-Err.ensures

pub returns-in-V4 : goal.returns-in-V4
returns-in-V4 c =
    rw c.new_unchecked-host.ensures (ip_host_reads4 c.args.bytes.now _ _ (subst (IsFront c.args.bytes.now) c.in-V4.is c.in-Ok.ensures))

pub returns-in-V6 : goal.returns-in-V6
returns-in-V6 c =
    rw c.new_unchecked-host-in-V6.ensures (ip_host_reads6 c.args.bytes.now _ _ (subst (IsFront c.args.bytes.now) c.in-V6.is c.in-Ok.ensures))
