use Rattle.std.proofs.Common.{refl, sym, subst}
use Rattle.cidr.specs.model.Network.{BeginsWith}
use Rattle.cidr_c.proofs.Ordered.{in_order}
use Rattle.cidr_c.proofs.ordering.all_of.Goals as goal

pub returns-clause-same : goal.returns-clause-same
returns-clause-same g c row = (
  λ d. ((c.inside.ensures.rows row).0 d).0,
  λ d. (c.inside.ensures.rows row).1 (d, subst (BeginsWith (g.C.BitString.bits row.0)) (sym c.requires) refl),
)

pub returns-clause-ascending : goal.returns-clause-ascending
returns-clause-ascending g c =
    in_order g.C.Ord.cmp g.C.BitString.bits g.met.C.Ord.total g.met.C.NetworkBits.ordered c.inside.result.now c.inside.ensures.sorted
