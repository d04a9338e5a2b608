use Rattle.std.proofs.Common.{arith}
use Rattle.cidr_ext.proofs.Labels.{shifted_none}
use Rattle.cidr_c.proofs.labels.shifted_out.Goals as goal

pub returns-else-count-lt128 : goal.returns-else-count-lt128
returns-else-count-lt128 c = shifted_none c.args.value c.args.count (omega arith) (omega arith)
