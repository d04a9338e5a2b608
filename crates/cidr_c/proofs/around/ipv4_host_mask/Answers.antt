use Rattle.std.proofs.Common.{length}
use Rattle.cidr_c.proofs.HostMasks.{host_mask_by_mask}
use Rattle.cidr_c.proofs.around.ipv4_host_mask.Goals as goal

pub returns : goal.returns
returns c =
    host_mask_by_mask (length c.args.network.now) c.mask.result c.from_bits.result c.to_bits.result c.mask.ensures c.to_bits.ensures.width
    c.to_bits.ensures.value c.from_bits.ensures
