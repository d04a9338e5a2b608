-- An octet of one, two or three digits, by where its dot stands.
use Rattle.std.proofs.Common.{arith}
use Rattle.cidr_ext.proofs.OctetLabels.{no_digit, ends_at_one, zero_goes_on, no_second, ends_at_two, no_third, too_large, no_end, ends_at_three}
use Rattle.cidr_ext.proofs.reverse.reading.take_octet.Goals as goal

pub returns-in_err-first : goal.returns-in_err-first
returns-in_err-first c = rw c.from_residual.ensures (no_digit _ c.in_err-first.ensures)

pub returns-in-Some : goal.returns-in-Some
returns-in-Some c = ends_at_one _ _ _ c.in_ok-first.ensures.1 _ c.in_ok-first.ensures.0 c.in-Some.ensures

pub returns-then-first-eq0 : goal.returns-then-first-eq0
returns-then-first-eq0 c = zero_goes_on _ _ _ c.in_ok-first.ensures.1 c.in_default.ensures c.if-first-eq0.true

pub returns-in_err-second : goal.returns-in_err-second
returns-in_err-second c =
    rw c.from_residual-in_err-second.ensures (no_second _ _ _ c.in_ok-first.ensures.1 c.in_default.ensures c.in_err-second.ensures)

pub returns-in-Some-take_dot : goal.returns-in-Some-take_dot
returns-in-Some-take_dot c =
    ends_at_two _ _ _ c.in_ok-first.ensures.1 c.in_default.ensures _ _ c.in_ok-second.ensures.1 c.in_ok-first.ensures.0 c.if-first-eq0.false c.in_ok-second.ensures.0
    _ c.in-Some-take_dot.ensures

pub returns-in_err-third : goal.returns-in_err-third
returns-in_err-third c =
    rw c.from_residual-in_err-third.ensures
    (no_third _ _ _ c.in_ok-first.ensures.1 c.in_default.ensures _ _ c.in_ok-second.ensures.1 c.in_ok-first.ensures.0 c.if-first-eq0.false c.in_ok-second.ensures.0
    c.in_default-take_dot.ensures c.in_err-third.ensures)

pub returns-then-three-gt255 : goal.returns-then-three-gt255
returns-then-three-gt255 c =
    too_large _ _ _ c.in_ok-first.ensures.1 c.in_default.ensures _ _ c.in_ok-second.ensures.1 c.in_ok-first.ensures.0 c.if-first-eq0.false c.in_ok-second.ensures.0
    c.in_default-take_dot.ensures _ _ c.in_ok-third.ensures.1 c.in_ok-third.ensures.0 (omega (arith, c.from.ensures, c.from-2.ensures))

pub returns-in_err-take_dot : goal.returns-in_err-take_dot
returns-in_err-take_dot c =
    rw c.from_residual-in_err-take_dot.ensures
    (no_end _ _ _ c.in_ok-first.ensures.1 c.in_default.ensures _ _ c.in_ok-second.ensures.1 c.in_ok-first.ensures.0 c.if-first-eq0.false c.in_ok-second.ensures.0
    c.in_default-take_dot.ensures _ _ c.in_ok-third.ensures.1 c.in_ok-third.ensures.0 c.in_err-take_dot.ensures)

pub returns : goal.returns
returns c =
    rw (c.from.ensures, c.from-2.ensures)
    (ends_at_three _ _ _ c.in_ok-first.ensures.1 c.in_default.ensures _ _ c.in_ok-second.ensures.1 c.in_ok-first.ensures.0 c.if-first-eq0.false c.in_ok-second.ensures.0
    c.in_default-take_dot.ensures _ _ c.in_ok-third.ensures.1 c.in_ok-third.ensures.0 _ (omega (arith, c.from.ensures, c.from-2.ensures)) c.in_ok-take_dot.ensures)
