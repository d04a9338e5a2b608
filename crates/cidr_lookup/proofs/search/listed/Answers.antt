use Rattle.std.proofs.Common.{◌≡◌, refl, ap, ◌∙◌, arith, ◌+◌, ◌≤◌, length, get_or}
use Rattle.cidr_lookup.proofs.Lists.{ascend_at, read}
use Rattle.cidr_lookup.proofs.search.listed.Goals as goal

pub returns-then-values-count : goal.returns-then-values-count
returns-then-values-count g c = λ value changes at few order.
    let here = read (g.T.Words.words c.args.words.now) c.args.index value changes at in
    absurd (omega (arith, here.long, here.count, c.if-values-count.true, c.len-2.ensures, c.word-count.ensures))

pub returns : goal.returns
returns g c = λ value changes at few order.
    let words = g.T.Words.words c.args.words.now in
    let here = read words c.args.index value changes at in
    let all : c.word-count.result ≡ length changes = c.word-count.ensures ∙ here.count in
    let found = c.upto.result in
    let ascending = ascend_at words c.args.index value changes (c.args.index + 1) c.word-count.result here order refl all in
    let within : found ≤ length changes = omega (arith, all, c.upto.ensures.within) in
    record {
      count = found;
      within = within;
      is = c.word.ensures ∙ (ap (λ n. get_or words (c.args.index + 1 + n + found) 0) all ∙ here.is found within);
      before = λ i l. omega (arith, here.word i (omega (arith, within)), c.upto.ensures.before ascending i l);
      behind = λ l. omega (arith, here.word found l, c.upto.ensures.behind ascending found (omega arith) (omega (arith, all, l)));
    }
