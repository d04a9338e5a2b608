use Rattle.std.proofs.Common.{arith}
use Rattle.cidr_ext.proofs.Halves.{parent_of}
use Rattle.cidr_ext.proofs.network.AnyNetworkExt.parent.Goals as goal

pub returns : goal.returns
returns g c = parent_of g.C.BitString.bits (g.C.BitString.bits c.args.self.now) c.in_ok-checked_sub.field-0 c.supernet.result
    (omega (arith, c.in_ok-checked_sub.ensures, c.len.ensures.value)) c.supernet.ensures
