-- Reading a network of either family, by what reading a network or `any` gave.
use Rattle.std.proofs.Common.{Ok, subst}
use Rattle.cidr.proofs.CompactEither.{AnyReads, ip_network_reads4, ip_network_reads6, ip_network_any, ip_network_refused}
use Rattle.cidr.proofs.cidr.combined.IpCidr.from_compact.Goals as goal

pub returns-in-Err : goal.returns-in-Err
returns-in-Err c = ip_network_refused c.args.bytes.now _ c.in-Err.ensures.refused

pub returns-in-Any : goal.returns-in-Any
returns-in-Any c =
    ip_network_any c.args.bytes.now c.in-Ok.read.1 (subst (λ x. AnyReads c.args.bytes.now (Ok (x, c.in-Ok.read.1))) c.in-Any.is c.in-Ok.ensures)

pub returns-in-V4 : goal.returns-in-V4
returns-in-V4 c =
    ip_network_reads4 c.args.bytes.now _ c.in-Ok.read.1 (subst (λ x. AnyReads c.args.bytes.now (Ok (x, c.in-Ok.read.1))) c.in-V4.is c.in-Ok.ensures)

pub returns-in-V6 : goal.returns-in-V6
returns-in-V6 c =
    ip_network_reads6 c.args.bytes.now _ c.in-Ok.read.1 (subst (λ x. AnyReads c.args.bytes.now (Ok (x, c.in-Ok.read.1))) c.in-V6.is c.in-Ok.ensures)
