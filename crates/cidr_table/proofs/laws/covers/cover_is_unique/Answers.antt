use Rattle.cidr_table.proofs.Uniqueness.{one_cover}
use Rattle.cidr_table.proofs.laws.covers.cover_is_unique.Goals as goal

pub returns : goal.returns
returns c = one_cover
