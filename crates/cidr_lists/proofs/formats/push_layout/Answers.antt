use Rattle.std.proofs.Common.{◌≡◌, []}
use Rattle.std.proofs.lemmas.List.{nil_from_length}
use Rattle.cidr_lists.specs.Formats.{family_by, later_rows, layout_in, row}
use Rattle.cidr_lists.proofs.StyledTexts.{four_pushed}
use Rattle.cidr_lists.proofs.formats.push_layout.Goals as goal

pub returns-in_default : goal.returns-in_default
returns-in_default g c =
    let none : c.args.networks.now ≡ [] = nil_from_length c.args.networks.now c.in_default.ensures.cases in
    rw none (rw c.as_bytes.ensures.value at c.in_ok-extend_from_slice.ensures.items)

pub returns : goal.returns
returns g c =
    let layout = c.args.layout.now in
    let text = family_by g.C.FamilyCidr.FAMILY g.C.BitString.bits in
    rw c.in-Some.ensures.cases.0 (four_pushed c.args.text.now.items c.extend_from_slice-2.new.self.items c.push_network.new.text.items
    c.push_later_rows.new.text.items c.extend_from_slice-3.new.self.items layout.head.now (row text (layout_in layout) c.in-Some.first.now)
    (later_rows text (layout_in layout) c.in-Some.rest.now) layout.tail.now
    (rw c.as_bytes-2.ensures.value at c.in_ok-extend_from_slice-2.ensures.items)
    c.in_ok-push_network.ensures
    c.in_ok-push_later_rows.ensures
    (rw c.as_bytes-3.ensures.value at c.in_ok-extend_from_slice-3.ensures.items))
