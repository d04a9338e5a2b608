-- A decimal number below 256, digit by digit.
use Rattle.std.proofs.Common.{arith, refl, sym}
use Rattle.std.proofs.lemmas.Bool.{eqb-false}
use Rattle.std.proofs.lemmas.List.{take_all}
use Rattle.cidr.proofs.NumberReading.{more_digits}
use Rattle.cidr.proofs.LengthReading.{decimal_digit_value, too_large, not_digits}
use Rattle.cidr.proofs.text.read.read_digits.Goals as goal

pub loop-digit-init : goal.loop-digit-init
loop-digit-init c = record { digits = tt; read = refl; fits = omega arith }

pub returns-then-not-is_ascii_digit : goal.returns-then-not-is_ascii_digit
returns-then-not-is_ascii_digit c = not_digits _ _ c.loop-digit-test.true c.if-not-is_ascii_digit.ensures.cases

pub overflow_mul-more : goal.overflow_mul-more
overflow_mul-more c = let fits = c.loop-digit.invariant.fits in omega arith

pub overflow_add-more : goal.overflow_add-more
overflow_add-more c =
    let fits = c.loop-digit.invariant.fits in
    let byte = c.type_inv.digits c.loop-digit.digit-index in
    omega (arith, c.from-in-loop-digit.ensures)

pub returns-then-more-gt255 : goal.returns-then-more-gt255
returns-then-more-gt255 c = too_large _ _ _ c.loop-digit.invariant c.loop-digit-test.true c.if-not-is_ascii_digit.ensures.cases (omega (arith, c.from.ensures, c.from-in-loop-digit.ensures))

pub loop-digit-preserved : goal.loop-digit-preserved
loop-digit-preserved c =
    let (digit, below) = decimal_digit_value c.args.digits.now c.loop-digit.digit-index c.if-not-is_ascii_digit.ensures.cases in
    rw (c.from.ensures, c.from-in-loop-digit.ensures) (more_digits _ _ _ _ _ _ c.loop-digit.invariant c.loop-digit-test.true digit below (omega (arith, c.from.ensures, c.from-in-loop-digit.ensures)))

pub returns : goal.returns
returns c =
    let h = c.loop-digit.invariant in
    let whole = take_all c.loop-digit.digit-index c.args.digits.now (omega arith) in
    ((omega (arith, eqb-false _ _ (sym c.if-is_empty.ensures)), rw whole at h.digits), rw whole at h.read, h.fits)
