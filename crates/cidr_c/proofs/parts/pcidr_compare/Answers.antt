use Rattle.std.proofs.Common.{refl}
use Rattle.cidr.specs.declared.cidr.any.AnyIpCidr.TheVariants.{V6}
use Rattle.cidr_c.proofs.Orders.{networks_compared}
use Rattle.cidr_c.proofs.parts.pcidr_compare.Goals as goal

pub returns-in-Some-Some-2 : goal.returns-in-Some-Some-2
returns-in-Some-Some-2 c =
    let one_tag = c.if-is_ipv6.ensures.0 refl in
    let other_tag = c.if-is_ipv6-2.ensures.0 refl in
    let both = c.in-Some-Some-2 in
    networks_compared c.args.one.now c.args.other.now (V6 both.one) (V6 both.other) c.compared-in-Some-Some-2.result
    (both.ensures one_tag.0 one_tag.1) (both.ensures' other_tag.0 other_tag.1) c.compared-in-Some-Some-2.ensures

pub returns-in-Some-Some-3 : goal.returns-in-Some-Some-3
returns-in-Some-Some-3 c =
    let both = c.in-Some-Some-3 in
    networks_compared c.args.one.now c.args.other.now both.one both.other c.compared-in-Some-Some-3.result both.ensures both.ensures'
    c.compared-in-Some-Some-3.ensures
