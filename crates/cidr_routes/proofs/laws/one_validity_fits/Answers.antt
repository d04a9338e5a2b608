use Rattle.std.specs.List.{Contains}
use Rattle.cidr_routes.proofs.Answering.{one_fits}
use Rattle.cidr_routes.proofs.laws.one_validity_fits.Goals as goal

pub returns : goal.returns
returns g c = λ vrps route origin one other h k. one_fits g.C.BitString.bits route origin (Contains vrps) one other h k
