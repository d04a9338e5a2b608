use Rattle.std.proofs.Common.{rules}
use borrow.Author.Tests.{tests}
use Rattle.cidr_lists.specs.Words.{ends_word}
use Rattle.std.proofs.lemmas.Iterator.{YieldsList-from_slice}
use Rattle.std.proofs.lemmas.Iterator.Search.{position_from_yields_List}
use Rattle.cidr_lists.proofs.LineFeeds.{place_or_len}
use Rattle.cidr_lists.proofs.words.word_len.Goals as goal

pub returns : goal.returns
returns c =
    let found =
    position_from_yields_List (ends_word c.args.family) _ _ c.position.result c.position.ensures.ran (YieldsList-from_slice c.args.line.now cc) (λ x b q k. search (rules, tests)) in
    let both = place_or_len (ends_word c.args.family) c.args.line.now c.position.result c.unwrap_or.result found (search rules) in
    record { first = both.0; fits = both.1 }
