use Rattle.std.proofs.Common.{arith, rules, ◌≡◌, ◌≤◌, length, take}
use Rattle.cidr_ext.proofs.InsideIpv6.{mapped_out, not_mapped}
use Rattle.cidr_ext.specs.model.InsideIpv6.{mapped_front}
use Rattle.cidr_ext.proofs.inside_ipv6.Ipv6CidrIpv6CidrExt.to_ipv4_mapped.Goals as goal

pub returns-in_err-first : goal.returns-in_err-first
returns-in_err-first c =
    let long : 96 ≤ length c.args.self.now = omega (arith, c.network_length.ensures.value, c.in_ok-len.ensures) in
    let other : ¬ (take 96 c.args.self.now ≡ mapped_front) = not_mapped c.args.self.now c.first_address.result c.first_address.ensures long c.in_err-first.ensures in
    search (rules, other)

pub returns : goal.returns
returns c =
    mapped_out c.args.self.now c.first_address.result c.first_address.ensures (omega (arith, c.network_length.ensures.value, c.in_ok-len.ensures))
    c.in_ok-first.first c.network_length.result c.in_ok-len.len c.new.result c.ok.result c.network_length.ensures.value c.network_length.ensures.fits
    c.in_ok-len.ensures.1 c.in_ok-first.ensures c.new.ensures.value c.ok.ensures.value
