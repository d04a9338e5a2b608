-- A number below 16 is the value of a digit.
use Rattle.std.proofs.Common.{arith}
use Rattle.cidr.proofs.HexDigits.{is_digit, is_no_digit}
use Rattle.cidr.proofs.addr.hex.hex_value.Goals as goal

pub returns-then-value-lt16 : goal.returns-then-value-lt16
returns-then-value-lt16 c = is_digit _ _ c.digit_or_no-value.ensures.value (omega arith)

pub returns-else-value-lt16 : goal.returns-else-value-lt16
returns-else-value-lt16 c = is_no_digit _ _ c.digit_or_no-value.ensures.value c.if-value-lt16.false
