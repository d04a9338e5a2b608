use Rattle.std.proofs.Common.{sym, ◌∙◌, ap}
use Rattle.std.specs.Int.{from_le_bytes, w32}
use Rattle.cidr.proofs.NetworkNumbers.{same_from_number}
use Rattle.cidr.specs.either.IpAddress.{address_family, plain_bits}
use Rattle.cidr.specs.model.Bits.{bits}
use Rattle.cidr.specs.declared.family.Family.TheVariants.{Ipv4, Ipv6}
use Rattle.cidr_files.specs.Layout.{wide_word}
use Rattle.netset_commands.specs.Stored.{by_family, file_rows}
use Rattle.netset_commands.proofs.Looked.{row_known}
use Rattle.netset_commands.proofs.input.stored.Stored.stored_row.Goals as goal

pub returns-in-V4 : goal.returns-in-V4
returns-in-V4 c =
    let n = from_le_bytes w32 c.of-bytes.result in
    rw (sym c.self.view_is) (row_known (by_family (file_rows c.self.inside.tables)) c.args.address.now Ipv4 (bits 32 n) _ (ap address_family c.in-V4.is)
    (same_from_number 32 n c.in-V4.address c.to_bits.ensures.width (c.of-bytes.ensures ∙ (c.from.ensures ∙ c.to_bits.ensures.value)) ∙ sym (ap plain_bits c.in-V4.is))
    c.found_in.ensures)

pub returns-in-V6 : goal.returns-in-V6
returns-in-V6 c =
    let n = wide_word c.of-bytes-in-V6.result in
    rw (sym c.self.view_is) (row_known (by_family (file_rows c.self.inside.tables)) c.args.address.now Ipv6 (bits 128 n) _ (ap address_family c.in-V6.is)
    (same_from_number 128 n c.in-V6.address c.to_bits-in-V6.ensures.width (c.of-bytes-in-V6.ensures ∙ c.to_bits-in-V6.ensures.value) ∙ sym (ap plain_bits c.in-V6.is))
    c.found_in-in-V6.ensures)
