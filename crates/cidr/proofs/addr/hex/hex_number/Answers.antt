-- Four digits write a number below 16 ^ 4, and where one of the bytes is none, the number is larger.
use Rattle.std.proofs.Common.{arith}
use Rattle.cidr.proofs.HexDigits.{all_digits, not_all_digits}
use Rattle.cidr.proofs.addr.hex.hex_number.Goals as goal

pub returns-then-number-lt-NO : goal.returns-then-number-lt-NO
returns-then-number-lt-NO c =
    all_digits c.digit_or_no.ensures.value c.digit_or_no-2.ensures.value c.digit_or_no-3.ensures.value
    c.digit_or_no-4.ensures.value (omega arith)

pub returns-else-number-lt-NO : goal.returns-else-number-lt-NO
returns-else-number-lt-NO c =
    not_all_digits c.digit_or_no.ensures.value c.digit_or_no-2.ensures.value c.digit_or_no-3.ensures.value
    c.digit_or_no-4.ensures.value (omega arith)
