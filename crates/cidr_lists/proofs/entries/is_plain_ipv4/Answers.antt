use Rattle.std.proofs.Common.{◌≡◌, ◌<◌, arith, refl, Some, None}
use Rattle.std.proofs.lemmas.Bool.{false≢true}
use Rattle.std.proofs.lemmas.Str.Pattern.{split_parts}
use Rattle.cidr_lists.proofs.Spelled.{alone_plain, full_not_plain, shorter_plain}
use Rattle.cidr_lists.proofs.entries.is_plain_ipv4.Goals as goal

pub returns-then-len-lt32 : goal.returns-then-len-lt32
returns-then-len-lt32 c =
    let short : c.args.host.now.len < 32 = omega (arith, c.network_length-len.ensures.value, c.if-len-lt32.true) in
    shorter_plain c.args.text.now c.args.host.now c.ends_in_length.result c.requires short
    (rw (c.network_length-len.ensures.value, c.as_bytes.ensures.value) at c.ends_in_length.ensures)

pub returns-in_default : goal.returns-in_default
returns-in_default c =
    let lacks = split_parts 47 c.args.text.now None c.in_default.ensures.cases (omega arith) in
    (λ _. alone_plain c.args.text.now c.args.host.now c.requires lacks, λ _. refl)

pub returns : goal.returns
returns c =
    let parts = split_parts 47 c.args.text.now (Some (c.in-Some._front, c.in-Some._back)) c.in-Some.ensures.cases (omega arith) in
    let full : c.args.host.now.len ≡ 32 = omega (arith, c.network_length-len.ensures.value, c.network_length-len.ensures.fits, c.if-len-lt32.false) in (
      λ t. absurd (false≢true t),
      λ same. absurd (full_not_plain c.args.text.now c.args.host.now c.in-Some._front.now c.in-Some._back.now c.requires parts.0 full same),
    )
