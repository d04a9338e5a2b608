use Rattle.std.proofs.Common.{arith}
use Rattle.std.proofs.lemmas.Fmt.{decimal_digit}
use Rattle.cidr_lists.proofs.Spelled.{ends_by, two_digits}
use Rattle.cidr_lists.proofs.entries.ends_in_length.Goals as goal

pub returns-then-len-lt10 : goal.returns-then-len-lt10
returns-then-len-lt10 c = ends_by c.args.text.now _ c.args.len c.ends_with.result (decimal_digit c.args.len c.if-len-lt10.true) c.ends_with.ensures.value

pub returns : goal.returns
returns c =
    ends_by c.args.text.now _ c.args.len c.ends_with-2.result (two_digits c.args.len (omega (arith, c.if-len-lt10.false)) (omega (arith, c.requires))) c.ends_with-2.ensures.value
