use Rattle.cidr_ext.proofs.Halves.{overlap_first, overlap_second}
use Rattle.cidr_ext.proofs.network.AnyNetworkExt.overlaps.Goals as goal

pub returns-then-shared-len-clause-common : goal.returns-then-shared-len-clause-common
returns-then-shared-len-clause-common g c =
    overlap_first (g.C.BitString.bits c.args.self.now) (g.C.BitString.bits c.args.other.now) c.shared_prefix_len-shared.result c.len.result
    c.shared_prefix_len-shared.ensures c.len.ensures.value c.if-shared-len.true

pub returns-else-shared-len-clause-common : goal.returns-else-shared-len-clause-common
returns-else-shared-len-clause-common g c =
    overlap_second (g.C.BitString.bits c.args.self.now) (g.C.BitString.bits c.args.other.now) c.shared_prefix_len-shared.result c.len.result
    c.len-else-shared-len.result c.shared_prefix_len-shared.ensures c.len.ensures.value c.if-shared-len.false c.len-else-shared-len.ensures.value
