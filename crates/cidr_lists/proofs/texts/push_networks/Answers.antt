use Rattle.cidr.specs.texts.Printed.{plain_text}
use Rattle.cidr_lists.specs.Printing.{line}
use Rattle.cidr_lists.proofs.PrintedTexts.{all_appended, line_pushed, none_appended, one_appended}
use Rattle.cidr_lists.proofs.texts.push_networks.Goals as goal

pub loop-network-init : goal.loop-network-init
loop-network-init g c = none_appended (λ network. line (plain_text g.C.FamilyCidr.FAMILY (g.C.BitString.bits network))) c.args.text.now.items c.args.networks.now

pub loop-network-preserved : goal.loop-network-preserved
loop-network-preserved g c =
    one_appended (λ network. line (plain_text g.C.FamilyCidr.FAMILY (g.C.BitString.bits network))) c.args.text.now.items c.args.networks.now c.loop-network.network-index c.network-item.result
    c.loop-network.text.items c.push.new.self.items c.loop-network-test.true c.network-item.is c.loop-network.invariant
    (line_pushed c.loop-network.text.items c.extend_from_slice.new.self.items c.push.new.self.items (plain_text g.C.FamilyCidr.FAMILY (g.C.BitString.bits c.network-item.result))
    (rw (c.as_bytes.ensures.value, c.as_str.ensures.value, c.to_text.ensures.text) at c.in_ok-extend_from_slice.ensures.items)
    c.in_ok-push.ensures.items)

pub returns : goal.returns
returns g c =
    all_appended (λ network. line (plain_text g.C.FamilyCidr.FAMILY (g.C.BitString.bits network))) c.args.text.now.items c.args.networks.now c.loop-network.network-index
    c.loop-network.text.items c.loop-network-test.false c.loop-network.invariant
