use Rattle.std.proofs.Common.{lit<, rules}
use borrow.Author.Tests.{tests}
use Rattle.std.proofs.lemmas.Iterator.Search.{any_from_yields_List}
use Rattle.std.proofs.lemmas.Iterator.Splits.{YieldsList-from_str_split}
use Rattle.cidr_ext.specs.texts.TextFaults.{group_test}
use Rattle.cidr_ext.proofs.group_faults.address_has.Goals as goal

pub returns : goal.returns
returns c =
    any_from_yields_List (group_test c.args.fault c.args.address.now) _ _ _ c.any.ensures.ran
    (YieldsList-from_str_split 58 c.args.address.now (lit< tt) c.split.ensures.text c.split.ensures.has_more c.split.ensures.pattern)
    (λ x b q k. search (rules, tests))
