use Rattle.std.proofs.Common.{Bool, List, ℕ, rules}
use borrow.Author.Tests.{tests}
use Rattle.std.proofs.lemmas.Iterator.{YieldsList-from_slice}
use Rattle.std.proofs.lemmas.Iterator.Search.{find_from_yields_List}
use Rattle.netset_commands.specs.Matching.{is_word}
use Rattle.netset_commands.specs.declared.input.keeping.Kept.{Kept}
use Rattle.netset_commands.proofs.input.keeping.list_named.Goals as goal

-- a list of this name
abbrev is_named : List ℕ → Kept → Bool
is_named name list = is_word name list.name.now

pub returns : goal.returns
returns c =
    find_from_yields_List (is_named c.args.name.now) _ _ c.find.result c.find.ensures.ran (YieldsList-from_slice c.args.lists.now cc)
    (λ x b q k. search (rules, tests))
