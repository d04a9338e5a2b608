use Rattle.cidr_table.proofs.Refinements.{refined}
use Rattle.cidr_table.proofs.laws.covers.cover_is_refined_by_others.Goals as goal

pub returns : goal.returns
returns c w keys cover networks h = refined w keys cover h networks
