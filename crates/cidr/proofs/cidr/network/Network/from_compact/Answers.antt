-- Reading a network: each way out of the reader.
use Rattle.std.proofs.Common.{◌+◌, ap, ◌∙◌}
use Rattle.cidr.specs.bytes.Compact.{octet_count, network_bytes}
use Rattle.cidr.specs.bytes.CompactRefusal.{Only, IsNetworkBytesRefused}
use Rattle.cidr.specs.model.Network.{width_of, FitsWidth}
use Rattle.cidr.proofs.CompactBytes.{reads_refused, network_code, network_reads, network_refuses}
use Rattle.cidr.proofs.cidr.network.Network.from_compact.Goals as goal

pub returns-in-Ok-new : goal.returns-in-Ok-new
returns-in-Ok-new g c =
    let f = g.A.AddressBits.FAMILY in
    network_reads f c.args.bytes.now _ _ c.in-Ok.ensures c.in-Ok-new.network c.bytes_used.result c.in-Ok-new.ensures.value (c.bytes_used.ensures ∙ ap (λ x. octet_count x + 1) c.FAMILY.ensures)

pub returns-in-Err-new : goal.returns-in-Err-new
returns-in-Err-new g c =
    let f = g.A.AddressBits.FAMILY in
    network_refuses f c.args.bytes.now _ _ c.in-Ok.ensures _ c.in-Err-new.ensures.value

pub returns-in-Err : goal.returns-in-Err
returns-in-Err g c =
    let f = g.A.AddressBits.FAMILY in
    reads_refused (FitsWidth (width_of f)) (network_bytes f) (IsNetworkBytesRefused (Only f)) (network_code f) c.args.bytes.now _ c.in-Err.ensures.0
