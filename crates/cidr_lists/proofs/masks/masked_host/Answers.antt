use Rattle.std.proofs.Common.{inl, inr, None, Some, arith}
use Rattle.std.proofs.lemmas.Str.Pattern.{split_parts}
use Rattle.cidr_lists.proofs.MaskedTexts.{masked_by, only_slash, only_space}
use Rattle.cidr_lists.proofs.masks.masked_host.Goals as goal

pub returns-in-Some : goal.returns-in-Some
returns-in-Some c =
    let parts = split_parts 47 c.args.text.now (Some (c.in-Some.front, c.in-Some.back)) c.in-Some.ensures.cases (omega arith) in
    masked_by c.args.text.now c.in-Some.front.now c.in-Some.back.now (inl parts.0)
    (only_slash c.args.text.now c.in-Some.front.now c.in-Some.back.now parts.0 parts.1) c.host_of.result c.host_of.ensures

pub returns : goal.returns
returns c =
    let front = c.cut_at_white_space.result.0.now in
    let back = c.cut_at_white_space.result.1.now in
    let lacks = split_parts 47 c.args.text.now None c.in_default.ensures.cases (omega arith) in
    masked_by c.args.text.now front back (inr (lacks, c.cut_at_white_space.ensures.front, c.cut_at_white_space.ensures.back))
    (only_space c.args.text.now front back lacks c.cut_at_white_space.ensures.front c.cut_at_white_space.ensures.back) c.host_of-2.result c.host_of-2.ensures
