use Rattle.cidr_table.proofs.Refinements.{shortest}
use Rattle.cidr_table.proofs.laws.covers.cover_is_shortest.Goals as goal

pub returns : goal.returns
returns c w keys cover networks h = shortest w keys cover h networks
