use Rattle.cidr_c.proofs.Founds.{ipv4_found, ipv6_found}
use Rattle.cidr_c.proofs.files.found_in.Goals as goal

pub returns-in-Some : goal.returns-in-Some
returns-in-Some c =
    let h = c.in-Some.ensures in
    ipv4_found c.args.bytes.now c.args.file.now c.args.asked.now _ c.found_at.result h.0 h.1 h.2 (c.found_at.ensures 4)

pub returns-in-Some-ipv6_address : goal.returns-in-Some-ipv6_address
returns-in-Some-ipv6_address c =
    let h = c.in-Some-ipv6_address.ensures in
    ipv6_found c.args.bytes.now c.args.file.now c.args.asked.now _ c.found_at-in-Some-ipv6_address.result h.0 h.1
    (c.found_at-in-Some-ipv6_address.ensures 16)
