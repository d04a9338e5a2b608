-- A group of one to four hexadecimal digits, by where its digits end.
use Rattle.std.proofs.Common.{◌≤◌, get_or, arith, refl}
use Rattle.std.specs.Char.{digit_value}
use Rattle.cidr.proofs.GroupReading.{short_value, five_digits, more_group, no_group, first_group, past_end, other_byte}
use Rattle.cidr.proofs.addr.read_v6.take_group.Goals.{else-loop-byte-test, then-loop-byte-test+in_default}
use Rattle.cidr.proofs.addr.read_v6.take_group.Goals as goal

pub loop-byte-init : goal.loop-byte-init
loop-byte-init c = (refl, record { digits = tt; read = refl; few = omega arith })

pub returns-then-count-eq4 : goal.returns-then-count-eq4
returns-then-count-eq4 c =
    five_digits _ _ _ _ _ c.loop-byte.invariant.1 c.if-count-eq4.true c.loop-byte.invariant.0 c.loop-byte-test.true refl c.in-Some.ensures.0

pub overflow_mul-value : goal.overflow_mul-value
overflow_mul-value c = let small = short_value _ _ _ c.loop-byte.invariant.1 (omega arith) (omega (arith, c.loop-byte.invariant.1.few)) in omega arith

pub overflow_add-value : goal.overflow_add-value
overflow_add-value c =
    let small = short_value _ _ _ c.loop-byte.invariant.1 (omega arith) (omega (arith, c.loop-byte.invariant.1.few)) in
    omega (arith, c.in-Some.ensures)

pub loop-byte-preserved : goal.loop-byte-preserved
loop-byte-preserved c =
    (omega arith, more_group _ _ _ _ _ _ c.loop-byte.invariant.1 c.if-count-eq4.false c.loop-byte.invariant.0 c.loop-byte-test.true refl c.in-Some.ensures)

pub returns-then-count-eq0 : goal.returns-then-count-eq0
returns-then-count-eq0 c =
    let stop : 16 ≤ digit_value (get_or c.args.text.now c.loop-byte.count 0) = elim c.loop-byte-test.branch [
      | else-loop-byte-test w ↦ past_end _ _ _ c.loop-byte.invariant.0 w.loop-byte-test.false
      | then-loop-byte-test+in_default w ↦ other_byte c.args.text.now _ _ _ c.loop-byte.invariant.0 refl w.in_default.ensures
    ] in
    no_group _ _ c.if-count-eq0.true stop

pub returns-else-count-eq0 : goal.returns-else-count-eq0
returns-else-count-eq0 c =
    let stop : 16 ≤ digit_value (get_or c.args.text.now c.loop-byte.count 0) = elim c.loop-byte-test.branch [
      | else-loop-byte-test w ↦ past_end _ _ _ c.loop-byte.invariant.0 w.loop-byte-test.false
      | then-loop-byte-test+in_default w ↦ other_byte c.args.text.now _ _ _ c.loop-byte.invariant.0 refl w.in_default.ensures
    ] in
    first_group _ _ _ c.loop-byte.invariant.1 c.if-count-eq0.false (omega arith) stop
