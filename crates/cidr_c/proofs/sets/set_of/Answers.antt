use Rattle.std.proofs.Common.{◌∙◌}
use Rattle.cidr_c.proofs.NetworkLists.{set_read}
use Rattle.cidr_c.proofs.sets.set_of.Goals as goal

pub returns-in-Ok : goal.returns-in-Ok
returns-in-Ok c =
    let told = c.in_ok-networks.ensures in
    set_read c.args.values.now c.as_slice.result.now c.in-Ok.set told.0 (c.as_slice.ensures.value ∙ told.1) c.in-Ok.ensures.set c.in-Ok.ensures.fits
