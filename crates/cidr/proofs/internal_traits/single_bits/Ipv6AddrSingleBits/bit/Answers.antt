-- A bit of an address by its number.
use Rattle.std.proofs.Common.{◌-◌, ◌==◌, sym, ap, ◌∙◌, arith}
use Rattle.std.specs.Int.{bit_at}
use Rattle.cidr.proofs.SingleBits.{get_or-number}
use Rattle.cidr.proofs.internal_traits.single_bits.Ipv6AddrSingleBits.bit.Goals as goal

pub returns : goal.returns
returns c =
    c.bit.ensures ∙ ap (λ n. bit_at n (127 - c.args.i) == 1) c.halves.ensures.value
    ∙ sym (get_or-number 128 c.args.i c.args.self (omega arith) c.halves.ensures.width)
