use Rattle.std.proofs.Common.{refl, arith}
use Rattle.std.proofs.lemmas.Slice.Zip.{length-zip}
use Rattle.cidr.specs.model.Bits.{bits}
use Rattle.cidr_files.specs.Tables.{parts_in, stored_networks, value_in}
use Rattle.netset_commands.proofs.StoredFiles.{found_clipped, no_row}
use Rattle.netset_commands.proofs.input.stored.found_in.Goals as goal

pub returns-in_err-row : goal.returns-in_err-row
returns-in_err-row g c =
    let parts = parts_in c.args.part.now in
    rw c.from_residual.ensures (no_row g.W.Address.width (value_in parts) (bits g.W.Address.width (g.W.Address.value c.args.address))
    (stored_networks g.W.FileAddress.numbers parts) (c.lookup.ensures.none c.in_err-row.was c.requires.look_ups))

pub bounds-part-row : goal.bounds-part-row
bounds-part-row g c =
    omega (arith, c.in_ok-row.ensures.within, length-zip (g.W.FileAddress.numbers c.args.part.now.addresses.now) c.args.part.now.lengths.now)

pub returns : goal.returns
returns g c =
    let asked = bits g.W.Address.width (g.W.Address.value c.args.address) in
    found_clipped g.W.Address.width g.W.Address.padding g.W.FileAddress.numbers (parts_in c.args.part.now) c.args.part.now.steps asked c.in_ok-row.row _
    c.in_ok-row.value.now c.requires (c.in_ok-row.ensures.longest c.requires.look_ups) refl (c.in_ok-row.ensures.value c.requires.offsets)
