use Rattle.std.proofs.Common.{ℕ, ◌+◌, List, subst, sym}
use Rattle.cidr_c.specs.Nested.{AreOuters}
use Rattle.cidr_c.proofs.Outers.{outers_more}
use Rattle.cidr_c.proofs.nested.outers_of.Goals as goal

pub loop-inner-preserved : goal.loop-inner-preserved
loop-inner-preserved g c =
    let bits = g.C.BitString.bits in
    let rows = c.args.rows.now in
    subst (λ (outers : List ℕ). AreOuters bits rows outers (c.loop-inner.inner + 1)) (sym c.in_ok-push.ensures.items)
    (outers_more bits rows c.loop-inner.outers.items c.loop-inner.inner c.outer_of-outer.result c.loop-inner.invariant c.outer_of-outer.ensures)
