-- The name of the next network goes behind the names so far.
use Rattle.cidr.specs.declared.family.Family.TheVariants.{Ipv6}
use Rattle.arrayvec.specs.declared.array_string.ArrayString.{ArrayString}
use Rattle.cidr_ext.specs.texts.Reverse.{reverse_text, EndsAtLabel}
use Rattle.cidr_ext.specs.model.Subnets.{subnets_of}
use Rattle.cidr_ext.specs.texts.Zones.{names_of}
use Rattle.cidr_uses.proofs.LanNames.{rest_ends, one_named, name_is}
use Rattle.cidr_uses.proofs.address_plan.lan_names.Goals as goal

pub loop-lan-preserved : goal.loop-lan-preserved
loop-lan-preserved c =
    let taken = rest_ends (Ipv6, c.in-Some-lan.lan) c.loop-lan.lan-iterator c.next.new.self c.in-Some-lan.ensures.steps c.loop-lan.invariant.3 in
    let name = name_is (λ (name : ArrayString 72). name.bytes) (reverse_text Ipv6 c.in-Some-lan.lan) (¬ (EndsAtLabel Ipv6 c.in-Some-lan.lan)) (EndsAtLabel Ipv6 c.in-Some-lan.lan)
    c.reverse_name.result c.unwrap.result c.unwrap.ensures c.reverse_name.ensures in
    let all = one_named (Ipv6, c.in-Some-lan.lan) c.loop-lan.lan-iterator c.next.new.self c.in-Some-lan.ensures.steps (λ (name : ArrayString 72). name.bytes)
    c.loop-lan.names.items c.unwrap.result (names_of (subnets_of Ipv6 c.args.site.now 64)) name c.loop-lan.invariant.2 in
    (tt, tt, rw c.in_ok-push.ensures.items all, taken)
