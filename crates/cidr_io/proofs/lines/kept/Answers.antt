use Rattle.std.proofs.Common.{arith}
use Rattle.cidr_io.proofs.Feeds.{kept_front, kept_whole}
use Rattle.cidr_io.proofs.lines.kept.Goals as goal

pub returns-then-len-lt-KEPT-clause-kept : goal.returns-then-len-lt-KEPT-clause-kept
returns-then-len-lt-KEPT-clause-kept c = λ text. kept_whole c.args.len text (omega arith)

pub returns-else-len-lt-KEPT-clause-kept : goal.returns-else-len-lt-KEPT-clause-kept
returns-else-len-lt-KEPT-clause-kept c = λ text. kept_front c.args.len text c.if-len-lt-KEPT.false
