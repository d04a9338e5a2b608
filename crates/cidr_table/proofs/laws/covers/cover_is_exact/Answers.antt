use Rattle.cidr_table.proofs.Refinements.{exact}
use Rattle.cidr_table.proofs.laws.covers.cover_is_exact.Goals as goal

pub returns : goal.returns
returns c = exact
