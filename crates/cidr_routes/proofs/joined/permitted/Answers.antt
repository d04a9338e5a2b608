use Rattle.std.proofs.Common.{◌≡◌, [], arith, rules, subst, sym}
use Rattle.cidr.specs.model.Network.{width_of}
use Rattle.cidr_routes.specs.Lengths.{AreSoFar}
use Rattle.cidr_routes.proofs.PermitRows.{all_permit, all_same, so_far_none}
use Rattle.cidr_routes.proofs.joined.permitted.Goals as goal

pub loop-len-init : goal.loop-len-init
loop-len-init g c =
    let none : c.new-out.result.items ≡ [] = search rules in
    subst (AreSoFar g.C.BitString.bits (width_of g.C.FamilyCidr.FAMILY) c.args.rows.now 0) (sym none)
    (so_far_none g.C.BitString.bits (width_of g.C.FamilyCidr.FAMILY) c.args.rows.now)

pub returns-clause-same : goal.returns-clause-same
returns-clause-same g c =
    let l = c.loop-len in
    all_same g.C.BitString.bits (width_of g.C.FamilyCidr.FAMILY) l.len (omega arith) (omega arith) c.args.rows.now l.out.items l.invariant

pub returns-clause-rows : goal.returns-clause-rows
returns-clause-rows g c =
    let l = c.loop-len in
    all_permit g.C.BitString.bits (width_of g.C.FamilyCidr.FAMILY) l.len (omega arith) (omega arith) c.args.rows.now l.out.items l.invariant
