use Rattle.std.proofs.Common.{refl}
use Rattle.cidr_ext.proofs.InsideIpv6.{behind, not_behind}
use Rattle.cidr_ext.proofs.inside_ipv6.ipv4_behind.Goals as goal

pub returns-then-number-len-clause-found : goal.returns-then-number-len-clause-found
returns-then-number-len-clause-found c =
    behind c.args.address c.args.front c.args.len c.to_bits-number.result c.requires.fits c.requires.within.1 c.to_bits-number.ensures.width c.to_bits-number.ensures.value
    c.if-number-len.true _ refl c.from_bits.result c.from_bits.ensures

pub returns-else-number-len-clause-found : goal.returns-else-number-len-clause-found
returns-else-number-len-clause-found c =
    not_behind c.args.address c.args.front c.args.len c.to_bits-number.result c.requires.fits c.requires.within.1 c.to_bits-number.ensures.width c.to_bits-number.ensures.value
    c.if-number-len.false
