-- The digits that come first are those of an octet, or of none.
use Rattle.std.proofs.Common.{drop, arith, sym, subst}
use Rattle.std.proofs.lemmas.List.{length-drop, take_all}
use Rattle.cidr.specs.internal.Reading.{IsFirstPart}
use Rattle.cidr.specs.texts.Ipv4Text.{IsOctetText}
use Rattle.cidr.proofs.OctetReading.{digits_first, octet_first, no_octet_first}
use Rattle.cidr.proofs.addr.read_v4.take_octet.Goals as goal

pub returns-in_err-octet : goal.returns-in_err-octet
returns-in_err-octet c =
    let first = c.decimal_value-first.ensures in
    let second = c.decimal_value-second.ensures in
    let third = c.decimal_value-third.ensures in
    rw c.from_residual.ensures (no_octet_first _ _ _ _ _
    (digits_first _ _ _ _ _ c.requires (omega (arith, c.if-first-gt9.false)) first.digit second.digit second.other third.digit third.other c.digit_count-count.ensures)
    c.in_err-octet.ensures)

pub returns : goal.returns
returns c =
    let first = c.decimal_value-first.ensures in
    let second = c.decimal_value-second.ensures in
    let third = c.decimal_value-third.ensures in
    let rest = drop c.digit_count-count.result c.args.text.now in
    subst (IsFirstPart IsOctetText c.args.text.now c.in_ok-octet.octet) (sym (take_all _ rest (omega (arith, length-drop c.digit_count-count.result c.args.text.now))))
    (octet_first _ _ _ _ _ _
    (digits_first _ _ _ _ _ c.requires (omega (arith, c.if-first-gt9.false)) first.digit second.digit second.other third.digit third.other c.digit_count-count.ensures)
    c.in_ok-octet.ensures)
