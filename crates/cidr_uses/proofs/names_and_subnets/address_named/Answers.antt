use Rattle.std.proofs.Common.{subst, sym, ◌∙◌}
use Rattle.cidr.specs.declared.family.Family.TheVariants.{Ipv4}
use Rattle.cidr_ext.specs.texts.Reverse.{IsReverseAddressName}
use Rattle.cidr_uses.proofs.names_and_subnets.address_named.Goals as goal

pub returns : goal.returns
returns c =
    let a = c.args.address in
    let e = c.as_str.ensures.value ∙ c.reverse_name-name.ensures in
    let read = c.printed_address_name_is_read.ensures Ipv4 a c.to_number.ensures.width in
    c.from_reverse_name.ensures.only a (subst (λ text. IsReverseAddressName Ipv4 text a) (sym e) read)
