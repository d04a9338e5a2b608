use Rattle.std.proofs.Common.{List, ℕ, ap, ◌∙◌, lit<, rules}
use borrow.Author.Tests.{tests}
use Rattle.std.specs.List.{list_any, slice_split}
use Rattle.std.proofs.lemmas.Iterator.Search.{any_from_yields_List}
use Rattle.std.proofs.lemmas.Iterator.Splits.{YieldsList-from_str_split}
use Rattle.cidr_ext.specs.texts.TextFaults.{group_test, group_texts, is_byte}
use Rattle.cidr_ext.proofs.group_faults.some_group_has.Goals as goal

pub returns : goal.returns
returns c =
    any_from_yields_List (λ address. list_any (group_test c.args.fault address) (group_texts address)) _ _ _ c.any.ensures.ran
    (YieldsList-from_str_split 45 c.before_slash-addresses.result.now (lit< tt) c.split.ensures.text c.split.ensures.has_more c.split.ensures.pattern)
    (λ x b q k. search (rules, tests))
    ∙ ap (λ (t : List ℕ). list_any (λ address. list_any (group_test c.args.fault address) (group_texts address)) (slice_split (is_byte 45) t)) c.before_slash-addresses.ensures
