-- The octets of the array, in order.
use Rattle.std.proofs.Common.{◌≡◌, ◌<◌, ◌∙◌, ℕ, length, get_or, rules, ap}
use Rattle.cidr.specs.model.Bits.{bits}
use Rattle.cidr.proofs.OctetRows.{bits-sixteen_octets}
use Rattle.cidr.proofs.addr.v6.Ipv6AddrFromArrayU816.from.Goals as goal

pub returns : goal.returns
returns c =
    let many : length c.args.octets ≡ 16 = search rules in
    let fit : (i : ℕ) → get_or c.args.octets i 0 < 256 = λ i. search rules in
    c.from_bits.ensures ∙ ap (bits 128) c.from_be_bytes.ensures ∙ bits-sixteen_octets c.args.octets many fit
