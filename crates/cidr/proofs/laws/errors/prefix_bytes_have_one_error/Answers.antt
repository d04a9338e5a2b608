-- One error at each width.
use Rattle.cidr.proofs.PrefixSpelling.{one_prefix_error}
use Rattle.cidr.proofs.laws.errors.prefix_bytes_have_one_error.Goals as goal

pub returns : goal.returns
returns c = one_prefix_error
