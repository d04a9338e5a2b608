use Rattle.std.proofs.Common.{Some, None, arith}
use Rattle.std.proofs.lemmas.Str.Pattern.{split_parts}
use Rattle.cidr_lists.specs.Wrong.{IsSpacedAddress}
use Rattle.cidr_lists.proofs.Standing.{around_both, around_none}
use Rattle.cidr_lists.proofs.wrong.is_range.Goals as goal

pub returns-in-Some : goal.returns-in-Some
returns-in-Some c =
    let parts = split_parts 45 c.args.text.now (Some (c.in-Some.front, c.in-Some.back)) c.in-Some.ensures.cases (omega arith) in
    around_both 45 IsSpacedAddress IsSpacedAddress c.args.text.now c.in-Some.front.now c.in-Some.back.now parts.0 parts.1 c.are_spaced_addresses.result
    c.are_spaced_addresses.ensures

pub returns-in-None : goal.returns-in-None
returns-in-None c =
    around_none 45 IsSpacedAddress IsSpacedAddress c.args.text.now (split_parts 45 c.args.text.now None c.in-None.ensures.cases (omega arith))
