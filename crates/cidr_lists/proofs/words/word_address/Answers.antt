use Rattle.std.proofs.Common.{inl, refl}
use Rattle.cidr_lists.specs.Words.{without_dots}
use Rattle.cidr_lists.proofs.FirstWords.{plain_is, word_is}
use Rattle.cidr_lists.proofs.words.word_address.Goals as goal

pub returns-then-is_plain : goal.returns-then-is_plain
returns-then-is_plain c = plain_is c.args.family c.args.word.now (c.is_plain.ensures c.if-is_plain.true)

pub returns-in-Some : goal.returns-in-Some
returns-in-Some c =
    let here = rw c.without_dots.ensures at c.in-Some.ensures in
    (without_dots c.args.word.now, inl refl, here.1, here.0)

pub returns : goal.returns
returns c =
    word_is c.args.family c.args.word.now c.address_before_colon.result (rw c.without_dots.ensures at c.in_default.ensures) c.address_before_colon.ensures
