use Rattle.cidr_table.proofs.Existence.{exists}
use Rattle.cidr_table.proofs.laws.covers.cover_exists.Goals as goal

pub returns : goal.returns
returns c = exists
