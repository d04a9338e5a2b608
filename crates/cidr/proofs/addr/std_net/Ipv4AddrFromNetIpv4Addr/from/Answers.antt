-- The octets of the bits of four octets are these octets.
use Rattle.std.proofs.Common.{◌≡◌, ◌<◌, ◌∙◌, ℕ, length, get_or, rules, sym, ap}
use Rattle.cidr.specs.model.Address.{octet_bits, octets_of}
use Rattle.cidr.proofs.GroupParts.{parts_of_these}
use Rattle.cidr.proofs.addr.std_net.Ipv4AddrFromNetIpv4Addr.from.Goals as goal

pub returns : goal.returns
returns c =
    let many : length c.octets.result ≡ 4 = search rules in
    let fit : (i : ℕ) → get_or c.octets.result i 0 < 256 = λ i. search rules in (
      sym c.octets.ensures ∙ parts_of_these 8 4 c.octets.result many fit ∙ ap octets_of (sym c.from.ensures),
      c.from.ensures ∙ ap octet_bits c.octets.ensures,
    )
