use Rattle.std.proofs.Common.{sym, ◌∙◌, ap, not, List, ℕ, codes, Err}
use Rattle.netset_commands.specs.Matching.{has, is_word}
use Rattle.netset_commands.specs.Table.{texts}
use Rattle.netset_commands.proofs.Parts.{if_false, if_true}
use Rattle.netset_commands.proofs.commands.arguments.named_list_form.Goals as goal

pub returns-then-has : goal.returns-then-has
returns-then-has c =
    if_false (not (is_word (codes "rir") c.args.name.now)) _ _ (sym c.ne.ensures ∙ c.if-ne.false)
    ∙ (if_true (has (codes "--host-bits") (texts c.args.options.now)) _ _ (sym c.has.ensures ∙ c.if-has.true)
    ∙ ap (λ (line : List ℕ). Err line) (sym c.misused-then-has.ensures))
