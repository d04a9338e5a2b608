use Rattle.cidr_ext.proofs.Labels.{named}
use Rattle.cidr_ext.proofs.reverse.name.name_of.Goals as goal

pub returns : goal.returns
returns g c =
    named (g.C.PrivCidr.family_of c.args.network.now) c.family-family.result (g.C.PrivCidr.prefix c.args.network.now)
    (g.C.Address.PrivUnspecAddress.bits c.first_address.result) c.network_length-len.result c.to_number.result c.shifted_out-value.result c.label_bits-width.result c.len.result
    c.new-name.result.bytes c.push_labels.new.name.bytes c.push_domain.new.name.bytes c.family-family.ensures c.network_length-len.ensures.value
    c.label_bits-width.ensures.value c.if-len-width-ne0.false c.first_address.ensures.value c.to_number.ensures.value c.len.ensures c.shifted_out-value.ensures
    c.new-name.ensures c.push_labels.ensures.bytes c.push_domain.ensures
