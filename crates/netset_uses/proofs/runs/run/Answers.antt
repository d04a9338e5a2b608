use Rattle.std.proofs.Common.{refl, sym}
use Rattle.netset_uses.proofs.Telling.{ran}
use Rattle.netset_uses.proofs.runs.run.Goals as goal

pub returns : goal.returns
returns c =
    ran _ _ _ _ c.program-status.result _ _ _ _ c.into_inner.result.items c.into_inner-2.result.items c.program-status.ensures.answers c.program-status.ensures.runs
    (rw (c.new-out.ensures, c.new.ensures.items) refl)
    (rw (c.into_inner.ensures, sym c.if-failed.ensures) refl)
    (rw (c.new-err.ensures, c.new-2.ensures.items) refl)
    (rw (c.into_inner-2.ensures, sym c.if-failed-2.ensures) refl)
