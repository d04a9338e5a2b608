use Rattle.std.proofs.Common.{rules, not}
use borrow.Author.Tests.{tests}
use Rattle.std.proofs.lemmas.Iterator.{YieldsList-from_slice}
use Rattle.std.proofs.lemmas.Iterator.Search.{position_from_yields_List}
use Rattle.cidr_c.specs.calls.Plans.{is_gap}
use Rattle.cidr_lists.proofs.LineFeeds.{place_or_len}
use Rattle.cidr_c.proofs.plan_words.gap_len.Goals as goal

pub returns : goal.returns
returns c =
    let found =
    position_from_yields_List (λ byte. not (is_gap byte)) _ _ c.position.result c.position.ensures.ran (YieldsList-from_slice c.args.text.now cc) (λ x b q k. search (rules, tests)) in
    let both = place_or_len (λ byte. not (is_gap byte)) c.args.text.now c.position.result c.unwrap_or.result found (search rules) in
    record { len = both.0; fits = both.1 }
