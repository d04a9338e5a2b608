use Rattle.std.proofs.Common.{refl}
use Rattle.cidr_c.proofs.mmdb.pcidr_mmdb_open.Goals as goal

pub returns-in-Ok : goal.returns-in-Ok
returns-in-Ok c =
    let bytes = c.args.bytes.now in
    let database = c.in-Ok.database in
    record {
      file = λ zero. (database, c.file_of.ensures bytes database (c.parts.ensures bytes c.in-Ok.ensures.opened));
      fault = λ other. absurd (other refl);
      stays = λ other. absurd (other refl);
    }
