use Rattle.std.proofs.Common.{refl, subst, List, ℕ, ◌∙◌}
use Rattle.cidr.specs.declared.family.Family.TheVariants.{Ipv6}
use Rattle.cidr_ext.proofs.Labels.{named}
use Rattle.cidr_c.specs.calls.Calls.{IsPrintedInto}
use Rattle.cidr_c.proofs.labels.print_ipv6_name.Goals as goal

pub returns-clause-named : goal.returns-clause-named
returns-clause-named c = λ ends.
    let name =
    named Ipv6 Ipv6 c.args.network.now c.first_address.result c.network_length-len.result c.to_bits.result c.shifted_out-value.result 4 128
    c.new-name.result.bytes c.push_labels.new.name.bytes c.push_str.new.self.bytes refl c.network_length-len.ensures.value
    refl c.if-len-ne0.false c.first_address.ensures c.to_bits.ensures.value refl c.shifted_out-value.ensures
    c.new-name.ensures c.push_labels.ensures.bytes c.push_str.ensures.bytes in
    subst (λ (t : List ℕ). IsPrintedInto t c.args.out.now c.print.new.out c.print.result) (c.as_str.ensures.value ∙ name.0) c.print.ensures
