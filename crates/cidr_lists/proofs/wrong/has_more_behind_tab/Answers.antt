use Rattle.std.proofs.Common.{Some, None, arith}
use Rattle.std.proofs.lemmas.Str.Pattern.{split_parts}
use Rattle.cidr_lists.specs.Wrong.{IsAnything, IsHost}
use Rattle.cidr_lists.proofs.Standing.{around_both, around_none, first_told}
use Rattle.cidr_lists.proofs.wrong.has_more_behind_tab.Goals as goal

pub returns-in-Some : goal.returns-in-Some
returns-in-Some c =
    let parts = split_parts 9 c.args.text.now (Some (c.in-Some.front, c.in-Some._back)) c.in-Some.ensures.cases (omega arith) in
    around_both 9 IsHost IsAnything c.args.text.now c.in-Some.front.now c.in-Some._back.now parts.0 parts.1 c.is_host.result
    (first_told IsHost c.in-Some.front.now c.in-Some._back.now c.is_host.result c.is_host.ensures)

pub returns-in-None : goal.returns-in-None
returns-in-None c =
    around_none 9 IsHost IsAnything c.args.text.now (split_parts 9 c.args.text.now None c.in-None.ensures.cases (omega arith))
