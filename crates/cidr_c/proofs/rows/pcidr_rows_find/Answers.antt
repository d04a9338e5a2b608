use Rattle.std.proofs.Common.{arith, inl, refl}
use Rattle.std.proofs.lemmas.List.{length-map}
use Rattle.cidr_c.specs.model.Values.{network_in}
use Rattle.cidr_c.proofs.RowsFound.{found_here}
use Rattle.cidr_c.proofs.rows.pcidr_rows_find.Goals as goal

pub returns-in-Ok : goal.returns-in-Ok
returns-in-Ok c =
    let told = c.in-Some.ensures in
    let networks = c.args.networks.now in
    let size = length-map networks network_in in
    let within = c.in-Ok.ensures.within in
    record {
      taken = λ _. (told.0, omega (arith, within, size));
      within = λ _. omega (arith, within, size);
      here = λ _ s. found_here networks c.in-Some.asked (network_in c.args.asked.now) c.in-Ok.found told.1 (c.in-Ok.ensures.index s);
      none = λ e. absurd (omega (arith, e));
      refused = λ e. absurd (omega (arith, e));
      codes = inl refl;
    }
