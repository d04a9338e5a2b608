use Rattle.std.proofs.Common.{◌∙◌, ◌<◌, ◌^◌, ap₂, arith, subst, sym, ℕ}
use Rattle.cidr.specs.model.Bits.{bits}
use Rattle.cidr_files.specs.Tables.{parts_in}
use Rattle.netset_commands.proofs.Listed.{network_pushed, networks_pushed}
use Rattle.netset_commands.proofs.input.stored.push_networks.Goals as goal

pub from_number-requires : goal.from_number-requires
from_number-requires g c = subst (λ (w : ℕ). c.number.result < 2 ^ w) c.requires c.number.ensures.fits

pub loop-row-preserved : goal.loop-row-preserved
loop-row-preserved g c =
    network_pushed g.C.BitString.bits g.W.Address.width g.W.Address.value g.W.FileAddress.numbers (parts_in c.args.part.now) c.addresses-addresses.result.now
    c.args.networks.now.items c.loop-row.networks.items c.push.new.self.items c.loop-row.row c.from.result c.index-addresses-row.result c.new_host-network.result
    c.clip.new.self c.addresses-addresses.ensures (omega (arith, c.loop-row-test.true, c.min-row-end.ensures))
    (omega (arith, c.loop-row-test.true, c.min-row-end.ensures)) c.index-addresses-row.is c.from.ensures
    (c.new_host-network.ensures.bits ∙ (c.from_number.ensures ∙ ap₂ bits (sym c.requires) c.number.ensures.value)) c.clip.ensures.bits
    c.in_ok-push.ensures.items c.loop-row.invariant

pub returns : goal.returns
returns g c =
    networks_pushed g.C.BitString.bits g.W.Address.width g.W.Address.value g.W.FileAddress.numbers (parts_in c.args.part.now) c.addresses-addresses.result.now
    c.args.networks.now.items c.loop-row.networks.items c.min-row-end.result c.loop-row.row c.addresses-addresses.ensures c.min-row-end.ensures
    c.loop-row-test.false c.loop-row.invariant
