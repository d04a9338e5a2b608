use Rattle.std.proofs.Common.{◌≡◌, ◌<◌, true, false, length, sym, subst, arith}
use Rattle.cidr_sets.proofs.Distinct.{equal, front_first, front_other, front_same, unequal}
use Rattle.cidr_sets.proofs.slices.keep_distinct.Goals as goal
use Rattle.cidr_sets.proofs.slices.keep_distinct.Goals.{then-kept-eq0, then-kept-eq0-via-then-kept-eq0, then-kept-eq0-via-else-kept-eq0+then-ne, else-kept-eq0+else-ne}

pub loop-i-preserved : goal.loop-i-preserved
loop-i-preserved g c =
    let E = g.C.PartialEq.eq in
    let old = c.args.elements.now in
    let l = c.loop-i in
    let x = c.index-elements-i.result in
    let here : l.i < length l.elements = omega (arith, c.loop-i-test.true, l.invariant.size) in
    elim c.if-kept-eq0.branch [
      | then-kept-eq0 w ↦ rw (w.elements-is, w.kept-is) (elim w.then-kept-eq0.branch [
        | then-kept-eq0-via-then-kept-eq0 v ↦
            front_first E old l.i l.kept l.elements l.invariant x here c.index-elements-i.is v.if-kept-eq0.true
        | then-kept-eq0-via-else-kept-eq0+then-ne v ↦
            front_other E old l.i l.kept l.elements l.invariant x here c.index-elements-i.is v.index-elements-kept.result
            (omega (arith, v.if-kept-eq0.false)) v.index-elements-kept.is
            (subst (λ y. E x y ≡ false) (sym v.index-elements-kept.is) (unequal _ v.ne.result v.ne.ensures v.if-ne.true))
      ])
      | else-kept-eq0+else-ne w ↦ rw (w.elements-is, w.kept-is)
          (front_same E old l.i l.kept l.elements l.invariant x here c.index-elements-i.is w.index-elements-kept.result
          (omega (arith, w.if-kept-eq0.false)) w.index-elements-kept.is
          (subst (λ y. E x y ≡ true) (sym w.index-elements-kept.is) (equal _ w.ne.result w.ne.ensures w.if-ne.false)))
    ]
