use Rattle.std.proofs.Common.{false, refl, true}
use Rattle.cidr.specs.declared.cidr.any.AnyIpCidr.TheVariants.{V4, V6}
use Rattle.cidr_c.proofs.Networks.{contained, told_behind}
use Rattle.cidr_c.proofs.parts.pcidr_contains.Goals as goal

pub returns-in-Some-Some : goal.returns-in-Some-Some
returns-in-Some-Some c =
    let outer_tag = c.if-is_ipv4.ensures.0 refl in
    let inner_tag = c.if-is_ipv4-2.ensures.0 refl in
    let both = c.in-Some-Some in
    let told = c.contains in
    contained c.args.outer.now c.args.inner.now (V4 both.outer) (V4 both.inner) told.result (both.ensures outer_tag) (both.ensures' inner_tag)
    (told_behind false both.outer both.inner told.result told.ensures)

pub returns-in-Some-Some-2 : goal.returns-in-Some-Some-2
returns-in-Some-Some-2 c =
    let outer_tag = c.if-is_ipv6.ensures.0 refl in
    let inner_tag = c.if-is_ipv6-2.ensures.0 refl in
    let both = c.in-Some-Some-2 in
    let told = c.contains-in-Some-Some-2 in
    contained c.args.outer.now c.args.inner.now (V6 both.outer) (V6 both.inner) told.result
    (both.ensures outer_tag.0 outer_tag.1) (both.ensures' inner_tag.0 inner_tag.1)
    (told_behind true both.outer both.inner told.result told.ensures)

pub returns-in-Some-Some-3 : goal.returns-in-Some-Some-3
returns-in-Some-Some-3 c =
    let both = c.in-Some-Some-3 in
    let told = c.contains-in-Some-Some-3 in
    contained c.args.outer.now c.args.inner.now both.outer both.inner told.result both.ensures both.ensures' told.ensures
