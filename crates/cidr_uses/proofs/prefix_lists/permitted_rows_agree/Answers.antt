use Rattle.std.proofs.Common.{subst, arith}
use Rattle.std.specs.Bool.{Decides}
use Rattle.cidr_routes.specs.PrefixLists.{IsPermitted}
use Rattle.cidr_uses.proofs.AccessLists.{same_answer}
use Rattle.cidr_uses.proofs.prefix_lists.permitted_rows_agree.Goals as goal

pub returns : goal.returns
returns g c =
    let f = g.C.BitString.bits in
    let p = f c.args.network.now in
    let same = c.in_ok-out.ensures.same p (omega (arith, c.network_length.ensures.value, c.network_length.ensures.fits)) in
    let told = subst (λ rs. Decides c.permits.result (IsPermitted f rs p)) c.as_slice.ensures.value c.permits.ensures in
    same_answer (IsPermitted f c.args.rows.now p) c.permits.result c.permits-2.result (λ t. same.0 (told.0 t), λ h. told.1 (same.1 h)) c.permits-2.ensures
