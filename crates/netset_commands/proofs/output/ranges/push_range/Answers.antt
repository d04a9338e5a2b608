use Rattle.cidr_lists.proofs.PrintedTexts.{other_by_number, same_by_number}
use Rattle.netset_commands.proofs.output.ranges.push_range.Goals as goal

pub returns-then-to_number : goal.returns-then-to_number
returns-then-to_number g c =
    let first = g.C.Address.PrivUnspecAddress.bits c.args.range.first in
    let last = g.C.Address.PrivUnspecAddress.bits c.args.range.last in
    rw (same_by_number first last _ c.to_number.result c.to_number-2.result c.to_number.ensures.width c.to_number-2.ensures.width c.to_number.ensures.value
    c.to_number-2.ensures.value c.if-to_number.true)
    (rw (c.as_bytes.ensures.value, c.as_str.ensures.value, c.address_text-first.ensures) at c.push_line.ensures)

pub returns : goal.returns
returns g c =
    let first = g.C.Address.PrivUnspecAddress.bits c.args.range.first in
    let last = g.C.Address.PrivUnspecAddress.bits c.args.range.last in
    rw (other_by_number first last c.to_number.result c.to_number-2.result c.to_number.ensures.value c.to_number-2.ensures.value c.if-to_number.false)
    (rw (c.as_bytes-2.ensures.value, c.as_str-2.ensures.value, c.address_text-first.ensures, c.as_bytes-3.ensures.value, c.as_str-3.ensures.value, c.address_text-last.ensures)
    at c.push_line-2.ensures)
