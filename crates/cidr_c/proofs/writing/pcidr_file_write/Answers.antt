use Rattle.std.proofs.Common.{refl, arith, length}
use Rattle.cidr_files.specs.Tables.{AreOffsets}
use Rattle.cidr_c.proofs.writing.pcidr_file_write.Goals as goal

pub put_file-requires : goal.put_file-requires
put_file-requires c =
    let good : AreOffsets c.args.offsets.now (length c.args.networks.now) (length c.args.values.now) = c.if-not-are_offsets.ensures.0 refl in
    record { few = omega arith; many = good.many; values = (good, omega arith) }
