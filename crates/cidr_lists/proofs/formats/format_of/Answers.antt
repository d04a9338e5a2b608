use Rattle.std.proofs.Common.{ap, ◌∙◌, List, rules}
use borrow.Author.Tests.{tests}
use Rattle.std.specs.List.{find}
use Rattle.std.specs.Str.{bytes_eq}
use Rattle.std.proofs.lemmas.Iterator.{YieldsList-from_slice}
use Rattle.std.proofs.lemmas.Iterator.Search.{find_from_yields_List}
use Rattle.cidr_lists.specs.Formats.{format_name}
use Rattle.cidr_lists.specs.declared.formats.Format.{Format}
use Rattle.cidr_lists.proofs.formats.format_of.Goals as goal

pub returns : goal.returns
returns c =
    c.copied.ensures
    ∙ find_from_yields_List (λ format. bytes_eq (format_name format) c.args.name.now) _ _ c.find.result c.find.ensures.ran (YieldsList-from_slice c.formats.result.now cc)
    (λ x b q k. search (rules, tests))
    ∙ ap (λ (k : List Format). find (λ format. bytes_eq (format_name format) c.args.name.now) k) c.formats.ensures
