-- The tag and the sixteen octets.
use Rattle.std.proofs.Common.{◌+◌, ◌∷◌, sym, ap, ◌∙◌, rules}
use Rattle.std.proofs.NetLemmas.Arrays.{sixteen_items}
use Rattle.cidr.proofs.compact.octets.Ipv6AddrAddressOctets.compact.Goals as goal

pub returns : goal.returns
returns c =
    c.from.ensures.0 ∙ ap (λ t. (0x40 + c.args.len) ∷ t) (sym (sixteen_items c.octets.result (search rules)) ∙ c.octets.ensures.value)
