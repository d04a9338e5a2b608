use Rattle.std.proofs.Common.{Some, None, arith}
use Rattle.std.proofs.lemmas.Str.Pattern.{split_parts}
use Rattle.cidr_lists.specs.Wrong.{IsAddress, IsAnything}
use Rattle.cidr_lists.proofs.Standing.{around_both, around_none, second_told}
use Rattle.cidr_lists.proofs.wrong.has_spaced_address.Goals as goal

pub returns-in-Some : goal.returns-in-Some
returns-in-Some c =
    let parts = split_parts 32 c.args.text.now (Some (c.in-Some._front, c.in-Some.back)) c.in-Some.ensures.cases (omega arith) in
    around_both 32 IsAnything IsAddress c.args.text.now c.in-Some._front.now c.in-Some.back.now parts.0 parts.1 c.is_address.result
    (second_told IsAddress c.in-Some._front.now c.in-Some.back.now c.is_address.result c.is_address.ensures)

pub returns-in-None : goal.returns-in-None
returns-in-None c =
    around_none 32 IsAnything IsAddress c.args.text.now (split_parts 32 c.args.text.now None c.in-None.ensures.cases (omega arith))
