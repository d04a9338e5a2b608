-- The table has the value of each digit.
use Rattle.std.proofs.Common.{arith}
use Rattle.cidr.proofs.HexDigits.{in_table, at_most_no}
use Rattle.cidr.proofs.addr.hex.digit_or_no.Goals as goal

pub returns : goal.returns
returns c =
    let entry = in_table c.args.byte _ c.from.ensures (omega arith) in
    record { value = entry; small = at_most_no _ _ entry }
