use Rattle.std.proofs.Common.{◌++◌}
use Rattle.cidr_lists.specs.Formats.{family_by, layout_in, row}
use Rattle.cidr_lists.proofs.PrintedTexts.{all_appended, none_appended, one_appended}
use Rattle.cidr_lists.proofs.StyledTexts.{two_pushed}
use Rattle.cidr_lists.proofs.formats.push_later_rows.Goals as goal

pub loop-network-init : goal.loop-network-init
loop-network-init g c =
    let layout = c.args.layout.now in
    none_appended (λ network. layout.between.now ++ row (family_by g.C.FamilyCidr.FAMILY g.C.BitString.bits) (layout_in layout) network) c.args.text.now.items c.args.networks.now

pub loop-network-preserved : goal.loop-network-preserved
loop-network-preserved g c =
    let layout = c.args.layout.now in
    one_appended (λ network. layout.between.now ++ row (family_by g.C.FamilyCidr.FAMILY g.C.BitString.bits) (layout_in layout) network) c.args.text.now.items c.args.networks.now
    c.loop-network.network-index c.network-item.result c.loop-network.text.items c.push_network.new.text.items c.loop-network-test.true c.network-item.is
    c.loop-network.invariant
    (two_pushed c.loop-network.text.items c.extend_from_slice.new.self.items c.push_network.new.text.items layout.between.now
    (row (family_by g.C.FamilyCidr.FAMILY g.C.BitString.bits) (layout_in layout) c.network-item.result)
    (rw c.as_bytes.ensures.value at c.in_ok-extend_from_slice.ensures.items)
    c.in_ok-push_network.ensures)

pub returns : goal.returns
returns g c =
    let layout = c.args.layout.now in
    all_appended (λ network. layout.between.now ++ row (family_by g.C.FamilyCidr.FAMILY g.C.BitString.bits) (layout_in layout) network) c.args.text.now.items c.args.networks.now
    c.loop-network.network-index c.loop-network.text.items c.loop-network-test.false c.loop-network.invariant
