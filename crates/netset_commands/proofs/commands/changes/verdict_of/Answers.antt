use Rattle.netset_commands.proofs.Changed.{nothing_changed, something_changed}
use Rattle.netset_commands.proofs.commands.changes.verdict_of.Goals as goal
use Rattle.netset_commands.proofs.commands.changes.verdict_of.Goals.{else-is_empty-via-then-is_empty+else-is_empty-2, else-is_empty-via-else-is_empty}
use Rattle.std.proofs.Common.{sym, ◌∙◌}
use Rattle.std.proofs.lemmas.Bool.{true≢false}

pub returns-then-is_empty-2 : goal.returns-then-is_empty-2
returns-then-is_empty-2 c =
    nothing_changed c.args.added.now c.args.lacking.now (c.is_empty.ensures.0 c.if-is_empty.true) (c.is_empty-then-is_empty.ensures.0 c.if-is_empty-2.true)

pub returns-else-is_empty : goal.returns-else-is_empty
returns-else-is_empty c =
    something_changed c.args.added.now c.args.lacking.now (λ h. elim c.else-is_empty.branch [
      | else-is_empty-via-then-is_empty+else-is_empty-2 w ↦ true≢false (sym (w.is_empty-then-is_empty.ensures.1 h.1) ∙ w.if-is_empty-2.false)
      | else-is_empty-via-else-is_empty w ↦ true≢false (sym (c.is_empty.ensures.1 h.0) ∙ w.if-is_empty.false)
    ])
