-- The groups of the array, in order.
use Rattle.std.proofs.Common.{sym, ap, ◌∙◌, rules}
use Rattle.std.proofs.NetLemmas.Arrays.{eight_items}
use Rattle.cidr.specs.model.Address.{group_bits}
use Rattle.cidr.proofs.addr.v6.Ipv6AddrFromArrayU168.from.Goals as goal

pub returns : goal.returns
returns c = c.new.ensures ∙ ap group_bits (sym (eight_items c.args.groups (search rules)))
