use Rattle.std.proofs.Common.{sym, ◌∙◌, true≢false}
use Rattle.netset_commands.proofs.commands.smallest.is_refused.Goals as goal

pub returns-then-holes : goal.returns-then-holes
returns-then-holes c = (λ is. (c.if-holes.true, c.has_hole.ensures.0 is), λ both. c.has_hole.ensures.1 both.1)

pub returns-else-holes : goal.returns-else-holes
returns-else-holes c = (λ is. absurd (true≢false (sym is)), λ both. absurd (true≢false (sym both.0 ∙ c.if-holes.false)))
