use Rattle.cidr_c.proofs.Founds.{ipv4_has, ipv6_has}
use Rattle.cidr_c.proofs.files.has_in.Goals as goal

pub returns-in-Some : goal.returns-in-Some
returns-in-Some c =
    let h = c.in-Some.ensures in
    ipv4_has c.args.bytes.now c.args.file.now c.args.asked.now _ c.has_at.result h.0 h.1 h.2 (c.has_at.ensures 4)

pub returns-in-Some-ipv6_address : goal.returns-in-Some-ipv6_address
returns-in-Some-ipv6_address c =
    let h = c.in-Some-ipv6_address.ensures in
    ipv6_has c.args.bytes.now c.args.file.now c.args.asked.now _ c.has_at-in-Some-ipv6_address.result h.0 h.1
    (c.has_at-in-Some-ipv6_address.ensures 16)
