-- Reading a host: each way out of the reader.
use Rattle.std.proofs.Common.{◌+◌, ap, ◌∙◌}
use Rattle.cidr.specs.bytes.Compact.{octet_count, host_bytes}
use Rattle.cidr.specs.bytes.CompactRefusal.{Only, IsHostBytesRefused}
use Rattle.cidr.specs.model.Host.{IsHost}
use Rattle.cidr.specs.model.Network.{width_of}
use Rattle.cidr.proofs.CompactBytes.{reads_refused, host_code, host_reads}
use Rattle.cidr.proofs.inet.host.Host.from_compact.Goals as goal

pub returns-in-Ok : goal.returns-in-Ok
returns-in-Ok g c =
    let f = g.A.AddressBits.FAMILY in
    rw c.new_unchecked.ensures (host_reads f c.args.bytes.now _ _ c.in-Ok.ensures c.bytes_used.result (c.bytes_used.ensures ∙ ap (λ x. octet_count x + 1) c.FAMILY.ensures))

pub returns-in-Err : goal.returns-in-Err
returns-in-Err g c =
    let f = g.A.AddressBits.FAMILY in
    reads_refused (IsHost (width_of f)) (host_bytes f) (IsHostBytesRefused (Only f)) (host_code f) c.args.bytes.now _ c.in-Err.ensures
