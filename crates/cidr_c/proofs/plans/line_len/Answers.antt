use Rattle.std.proofs.Common.{rules}
use Rattle.cidr_lists.proofs.LineFeeds.{feed_or_len}
use Rattle.cidr_c.proofs.plans.line_len.Goals as goal

pub returns : goal.returns
returns c =
    let both = feed_or_len c.args.text.now c.feed_in.result c.unwrap_or.result c.feed_in.ensures (search rules) in
    record { first = both.0; fits = both.1 }
