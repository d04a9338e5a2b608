use Rattle.std.proofs.Common.{◌≡◌, false, length, arith, sym, subst}
use Rattle.std.proofs.lemmas.List.{length-replicate}
use Rattle.cidr.specs.model.Network.{width_of}
use Rattle.cidr_routes.specs.Lengths.{AreMarkedBelow}
use Rattle.cidr_routes.proofs.DecidingRows.{below_end, below_start}
use Rattle.cidr_routes.proofs.shadows.mark_all.Goals as goal

pub loop-len-init : goal.loop-len-init
loop-len-init g c = record {
  size = subst (λ marks. length marks ≡ length c.args.rows.now) (sym c.requires) (length-replicate (length c.args.rows.now) false);
  marks = subst (AreMarkedBelow g.C.BitString.bits 0 c.args.rows.now) (sym c.requires) (below_start g.C.BitString.bits c.args.rows.now);
}

pub returns : goal.returns
returns g c =
    let l = c.loop-len in
    below_end g.C.BitString.bits (width_of g.C.FamilyCidr.FAMILY) l.len (omega arith) (omega arith) c.args.rows.now l.marks l.invariant.marks
