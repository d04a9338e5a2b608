use Rattle.std.proofs.Common.{◌∙◌, ap}
use Rattle.cidr.specs.model.Network.{width_of}
use Rattle.cidr_forwarding.specs.Forwarding.{in_bits}
use Rattle.netset_commands.specs.Fewest.{with_numbers}
use Rattle.netset_commands.proofs.Families.{narrow}
use Rattle.netset_commands.proofs.FewestTold.{bits_with_numbers}
use Rattle.netset_commands.proofs.commands.smallest.plain_rows.Goals as goal

pub returns : goal.returns
returns g c = (
  in_bits g.C.BitString.bits c.in_ok-smallest.smallest.rows,
  c.in_ok-smallest.ensures.width (width_of g.C.FamilyCidr.FAMILY) (narrow g.C.FamilyCidr.FAMILY) c.requires,
  ap (in_bits g.C.BitString.bits) (c.in_ok-made.ensures ∙ ap with_numbers c.rows_of.ensures) ∙ bits_with_numbers g.C.BitString.bits c.in_ok-smallest.smallest.rows,
)
