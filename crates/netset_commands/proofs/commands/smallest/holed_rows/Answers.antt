use Rattle.std.proofs.Common.{ap, subst, sym}
use Rattle.cidr.specs.model.Network.{HasWidth, width_of}
use Rattle.cidr_forwarding.specs.Forwarding.{in_bits, IsSmallestHoled}
use Rattle.netset_commands.proofs.Families.{narrow}
use Rattle.netset_commands.proofs.FewestTold.{behind_nothing}
use Rattle.netset_commands.proofs.commands.smallest.holed_rows.Goals as goal

pub returns : goal.returns
returns g c =
    let w = width_of g.C.FamilyCidr.FAMILY in
    subst (IsSmallestHoled (HasWidth w) (in_bits g.C.BitString.bits c.args.table.now.rows))
    (ap (in_bits g.C.BitString.bits) (sym (behind_nothing _ _ _ _ c.new-made.ensures.items c.in_ok-extend_from_slice.ensures.items c.rows_of.ensures)))
    (c.in_ok-smallest.ensures.width w (narrow g.C.FamilyCidr.FAMILY) c.requires)
