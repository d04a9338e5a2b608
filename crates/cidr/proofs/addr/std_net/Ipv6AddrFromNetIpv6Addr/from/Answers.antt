-- The groups of the bits of eight groups are these groups.
use Rattle.std.proofs.Common.{◌≡◌, ◌<◌, ◌∙◌, ℕ, length, get_or, rules, sym, ap}
use Rattle.cidr.specs.model.Address.{group_bits, groups_of}
use Rattle.cidr.proofs.GroupParts.{parts_of_these}
use Rattle.cidr.proofs.addr.std_net.Ipv6AddrFromNetIpv6Addr.from.Goals as goal

pub returns : goal.returns
returns c =
    let many : length c.segments.result ≡ 8 = search rules in
    let fit : (i : ℕ) → get_or c.segments.result i 0 < 65536 = λ i. search rules in (
      sym c.segments.ensures ∙ parts_of_these 16 8 c.segments.result many fit ∙ ap groups_of (sym c.from.ensures),
      c.from.ensures ∙ ap group_bits c.segments.ensures,
    )
