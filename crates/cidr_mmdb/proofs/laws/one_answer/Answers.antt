use Rattle.cidr_mmdb.proofs.Sameness.{same_answer}
use Rattle.cidr_mmdb.proofs.laws.one_answer.Goals as goal

pub returns : goal.returns
returns c = same_answer
