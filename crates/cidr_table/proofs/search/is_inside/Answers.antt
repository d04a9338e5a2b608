use Rattle.std.proofs.Common.{◌==◌, ap, sym, ◌∙◌}
use Rattle.cidr_table.proofs.Beginnings.{begins_decides, begins_from_shared}
use Rattle.cidr_table.proofs.search.is_inside.Goals as goal

pub returns : goal.returns
returns g c =
    let f = g.C.BitString.bits in
    let a = f c.args.network.now in
    let p = f c.args.outer.now in
    let n = c.shared_prefix_len.result in
    let told = begins_decides a p in
    let e = ap (λ k. n == k) c.len.ensures.value ∙ begins_from_shared a p n c.shared_prefix_len.ensures in
    (λ h. told.0 (sym e ∙ h), λ b. e ∙ told.1 b)
