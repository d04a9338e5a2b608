use Rattle.std.proofs.Common.{lit<, rules}
use borrow.Author.Tests.{tests}
use Rattle.std.proofs.lemmas.Iterator.Search.{any_from_yields_List}
use Rattle.std.proofs.lemmas.Iterator.Splits.{YieldsList-from_str_split}
use Rattle.cidr_ext.specs.texts.TextFaults.{begins_with_zero}
use Rattle.cidr_ext.proofs.group_faults.has_leading_zero.Goals as goal

pub returns : goal.returns
returns c =
    any_from_yields_List begins_with_zero _ _ _ c.any.ensures.ran
    (YieldsList-from_str_split 46 c.args.group.now (lit< tt) c.split.ensures.text c.split.ensures.has_more c.split.ensures.pattern)
    (λ x b q k. search (rules, tests))
