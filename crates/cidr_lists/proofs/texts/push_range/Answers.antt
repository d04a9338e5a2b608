use Rattle.cidr.specs.texts.PrintedAddress.{address_text}
use Rattle.cidr_lists.proofs.PrintedTexts.{one_pushed, other_by_number, same_by_number, two_pushed}
use Rattle.cidr_lists.proofs.texts.push_range.Goals as goal

pub returns-then-to_number : goal.returns-then-to_number
returns-then-to_number g c =
    one_pushed (address_text g.C.FamilyCidr.FAMILY) _ _ c.args.text.now.items c.extend_from_slice.new.self.items c.push.new.self.items
    (same_by_number _ _ _ c.to_number.result c.to_number-2.result c.to_number.ensures.width c.to_number-2.ensures.width
    c.to_number.ensures.value c.to_number-2.ensures.value c.if-to_number.true)
    (rw (c.as_bytes.ensures.value, c.as_str.ensures.value, c.address_text.ensures) at c.in_ok-extend_from_slice.ensures.items)
    c.in_ok-push.ensures.items

pub returns : goal.returns
returns g c =
    two_pushed (address_text g.C.FamilyCidr.FAMILY) _ _ c.args.text.now.items c.extend_from_slice.new.self.items c.push-2.new.self.items
    c.extend_from_slice-2.new.self.items c.push-3.new.self.items
    (other_by_number _ _ c.to_number.result c.to_number-2.result c.to_number.ensures.value c.to_number-2.ensures.value c.if-to_number.false)
    (rw (c.as_bytes.ensures.value, c.as_str.ensures.value, c.address_text.ensures) at c.in_ok-extend_from_slice.ensures.items)
    c.in_ok-push-2.ensures.items
    (rw (c.as_bytes-2.ensures.value, c.as_str-2.ensures.value, c.address_text-2.ensures) at c.in_ok-extend_from_slice-2.ensures.items)
    c.in_ok-push-3.ensures.items
