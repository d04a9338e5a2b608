use Rattle.std.proofs.Common.{arith, sym, ap, ◌∙◌}
use Rattle.cidr.specs.model.Network.{width_of}
use Rattle.cidr_ext.proofs.Indexes.{width_fits}
use Rattle.cidr_ext.proofs.Masks.{mask_found, top_fits}
use Rattle.cidr_ext.proofs.address.AddressExt.mask_length.Goals as goal

pub overflow_sub-greatest : goal.overflow_sub-greatest
overflow_sub-greatest g c =
    top_fits c.len-width.result c.to_number.result c.greatest.result (g.Self.PrivUnspecAddress.bits c.args.self)
    (omega (arith, width_fits (g.Self.PrivUnspecAddress.family_of c.args.self), c.len-width.ensures ∙ ap width_of c.family.ensures))
    (c.to_number.ensures.width ∙ sym (c.len-width.ensures ∙ ap width_of c.family.ensures)) c.to_number.ensures.value c.greatest.ensures

pub returns : goal.returns
returns g c =
    mask_found (g.Self.PrivUnspecAddress.family_of c.args.self) c.len-width.result c.to_number.result c.greatest.result (g.Self.PrivUnspecAddress.bits c.args.self)
    (c.len-width.ensures ∙ ap width_of c.family.ensures) c.to_number.ensures.width c.to_number.ensures.value c.greatest.ensures
    c.count_of_ones.result c.prefix_length.result c.count_of_ones.ensures c.prefix_length.ensures
