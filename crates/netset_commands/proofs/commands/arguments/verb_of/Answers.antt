use Rattle.std.proofs.Common.{ap, ◌∙◌, Bool, List, ℕ, rules}
use borrow.Author.Tests.{tests}
use Rattle.std.specs.List.{find}
use Rattle.std.proofs.lemmas.Iterator.{YieldsList-from_slice}
use Rattle.std.proofs.lemmas.Iterator.Search.{find_from_yields_List}
use Rattle.netset_commands.specs.Arguments.{full_name}
use Rattle.netset_commands.specs.Matching.{is_word}
use Rattle.netset_commands.specs.Table.{name_of}
use Rattle.netset_commands.specs.declared.commands.table.Verb.{Verb}
use Rattle.netset_commands.proofs.commands.arguments.verb_of.Goals as goal

-- a command of this name
abbrev is_named : List ℕ → Verb → Bool
is_named name command = is_word name (name_of command)

pub returns : goal.returns
returns c =
    c.copied.ensures
    ∙ find_from_yields_List (is_named c.full_name-name.result.now) _ _ c.find.result c.find.ensures.ran (YieldsList-from_slice c.commands.result.now cc)
    (λ x b q k. search (rules, tests))
    ∙ (ap (λ (k : List ℕ). find (is_named k) c.commands.result.now) c.full_name-name.ensures
    ∙ ap (λ (k : List Verb). find (is_named (full_name c.args.word.now)) k) c.commands.ensures)
