use Rattle.std.proofs.Common.{arith}
use Rattle.cidr.proofs.SharedBits.{same_first_bits}
use Rattle.cidr_c.proofs.entries.shared_len_of_halves.Goals as goal

pub returns-clause-shared : goal.returns-clause-shared
returns-clause-shared c k h = same_first_bits 64 k c.args.half c.args.other h (omega arith) (omega arith)
