use Rattle.std.proofs.Common.{rules}
use borrow.Author.Tests.{tests}
use Rattle.std.proofs.lemmas.Iterator.{YieldsList-from_slice}
use Rattle.std.proofs.lemmas.Iterator.Search.{position_from_yields_List}
use Rattle.cidr_c.specs.calls.Plans.{is_hyphen}
use Rattle.cidr_lists.proofs.LineFeeds.{place_or_len}
use Rattle.cidr_c.proofs.plan_words.len_to_hyphen.Goals as goal

pub returns : goal.returns
returns c =
    let found =
    position_from_yields_List is_hyphen _ _ c.position.result c.position.ensures.ran (YieldsList-from_slice c.args.text.now cc) (λ x b q k. search (rules, tests)) in
    let both = place_or_len is_hyphen c.args.text.now c.position.result c.unwrap_or.result found (search rules) in
    record { first = both.0; fits = both.1 }
