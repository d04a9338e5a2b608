-- A number of a radix, by where its digits end.
use Rattle.std.proofs.Common.{◌≡◌, ◌+◌, ◌*◌, ◌<◌, ◌≤◌, get_or, sym, arith, refl}
use Rattle.std.specs.Char.{digit_value}
use Rattle.cidr.proofs.GroupReading.{past_end}
use Rattle.cidr.proofs.NumberReading.{other_digit, more_digits, no_number, large_number, first_number}
use Rattle.cidr.proofs.parsers.parts.take_number.Goals.{else-loop-byte-test, then-loop-byte-test+in_default}
use Rattle.cidr.proofs.parsers.parts.take_number.Goals as goal

pub loop-byte-init : goal.loop-byte-init
loop-byte-init c = (refl, record { digits = tt; read = refl; fits = omega arith })

pub returns-then-value-from : goal.returns-then-value-from
returns-then-value-from c =
    let place = c.loop-byte.invariant.0 in
    let digit : digit_value (get_or c.args.text.now c.loop-byte.count 0) ≡ c.in-Some.digit = rw (place, ← c.from.ensures) (sym c.in-Some.ensures.value.1) in
    let below : c.in-Some.digit < c.args.radix = rw c.in-Some.ensures.value.1 c.in-Some.ensures.value.0 in
    let radix = c.from-in-loop-byte in
    let next : c.loop-byte.value * c.args.radix + c.in-Some.digit ≡ c.loop-byte.value * radix.result + c.from-in-loop-byte-2.result =
    rw (radix.ensures, c.from-in-loop-byte-2.ensures) refl in
    large_number c.args.radix (c.args.most + 1) c.args.text.now c.requires.hexadecimal _ _ _ c.loop-byte.invariant.1 (omega arith) digit below (omega arith)

pub loop-byte-preserved : goal.loop-byte-preserved
loop-byte-preserved c =
    let place = c.loop-byte.invariant.0 in
    let digit : digit_value (get_or c.args.text.now c.loop-byte.count 0) ≡ c.in-Some.digit = rw (place, ← c.from.ensures) (sym c.in-Some.ensures.value.1) in
    let below : c.in-Some.digit < c.args.radix = rw c.in-Some.ensures.value.1 c.in-Some.ensures.value.0 in
    let radix = c.from-in-loop-byte in
    let next : c.loop-byte.value * c.args.radix + c.in-Some.digit ≡ c.loop-byte.value * radix.result + c.from-in-loop-byte-2.result =
    rw (radix.ensures, c.from-in-loop-byte-2.ensures) refl in
    (omega arith, rw (← next) (more_digits _ _ _ _ _ _ c.loop-byte.invariant.1 (omega arith) digit below (omega arith)))

pub returns-then-count-eq0 : goal.returns-then-count-eq0
returns-then-count-eq0 c =
    let stop : c.args.radix ≤ digit_value (get_or c.args.text.now c.loop-byte.count 0) = elim c.loop-byte-test.branch [
      | else-loop-byte-test w ↦ omega (arith, c.requires.hexadecimal, past_end c.args.text.now _ _ c.loop-byte.invariant.0 w.loop-byte-test.false)
      | then-loop-byte-test+in_default w ↦ other_digit c.args.radix c.args.text.now _ _ _ c.loop-byte.invariant.0 w.from.ensures w.in_default.ensures.value
    ] in
    no_number c.args.radix (c.args.most + 1) c.args.text.now c.requires.hexadecimal (rw c.if-count-eq0.true at stop)

pub returns-else-count-eq0 : goal.returns-else-count-eq0
returns-else-count-eq0 c =
    let stop : c.args.radix ≤ digit_value (get_or c.args.text.now c.loop-byte.count 0) = elim c.loop-byte-test.branch [
      | else-loop-byte-test w ↦ omega (arith, c.requires.hexadecimal, past_end c.args.text.now _ _ c.loop-byte.invariant.0 w.loop-byte-test.false)
      | then-loop-byte-test+in_default w ↦ other_digit c.args.radix c.args.text.now _ _ _ c.loop-byte.invariant.0 w.from.ensures w.in_default.ensures.value
    ] in
    first_number c.args.radix (c.args.most + 1) c.args.text.now c.requires.hexadecimal _ _ c.loop-byte.invariant.1 c.if-count-eq0.false (omega arith) stop
