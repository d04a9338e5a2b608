use Rattle.std.proofs.Common.{ap, ◌∙◌}
use Rattle.cidr.specs.model.Network.{width_of}
use Rattle.cidr_ext.proofs.Masks.{host_mask_found}
use Rattle.cidr_ext.proofs.address.AddressExt.host_mask_length.Goals as goal

pub returns : goal.returns
returns g c =
    host_mask_found (g.Self.PrivUnspecAddress.family_of c.args.self) c.len-width.result c.to_number.result (g.Self.PrivUnspecAddress.bits c.args.self)
    (c.len-width.ensures ∙ ap width_of c.family.ensures) c.to_number.ensures.width c.to_number.ensures.value
    c.count_of_ones.result c.prefix_length.result c.count_of_ones.ensures c.prefix_length.ensures
