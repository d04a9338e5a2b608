use Rattle.std.proofs.Common.{ap, take, ℕ}
use Rattle.cidr_lists.proofs.lines.without_comment.Goals as goal

pub returns : goal.returns
returns c = ap (λ (n : ℕ). take n c.args.line.now) c.len_to_comment.ensures.first
