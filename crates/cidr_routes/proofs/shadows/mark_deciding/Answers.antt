use Rattle.std.proofs.Common.{◌≡◌, ◌↔◌, ℕ, sym, ap, ◌∙◌, subst, arith, cond}
use Rattle.std.proofs.Math.ListN.{length-set}
use Rattle.std.specs.List.{Contains}
use Rattle.cidr_sets.specs.model.FirstRules.{IsShadowed}
use Rattle.cidr_routes.specs.Lengths.{has_length}
use Rattle.cidr_routes.proofs.DecidingRows.{count_more, idle_told, mark_end, mark_set, networks_of}
use Rattle.cidr_routes.proofs.Lengths.{told}
use Rattle.cidr_routes.proofs.shadows.mark_deciding.Goals as goal

pub loop-i-preserved : goal.loop-i-preserved
loop-i-preserved g c =
    let bits = g.C.BitString.bits in
    let l = c.loop-i in
    let h = l.invariant in
    let rows = c.args.rows.now in
    let len = c.args.len in
    let row = c.index-rows-i.result in
    let has = c.has_length-has.result in
    let b = c.mark_of.result in
    let is : has_length bits len row ≡ has = told bits has len row c.has_length-has.ensures in
    let count : c.count_of-rule.result ≡ cond (has_length bits len row) 1 0 = c.count_of-rule.ensures.value ∙ ap (λ t. cond t 1 0) (sym is) in
    let more = count_more bits len rows l.i row c.loop-i-test.true c.index-rows-i.is in
    let tells = subst (λ passed. (j : ℕ) → Contains passed j ↔ IsShadowed 129 (networks_of bits len rows) j) (sym c.as_slice.ensures.value) c.in_ok-passed.ensures.indices in
    let idle = idle_told bits len rows l.i row c.loop-i-test.true c.index-rows-i.is c.requires.known c.as_slice.result.now tells has is l.rule h.rule in
    record {
      size = length-set l.marks l.i b ∙ h.size;
      fits = omega (arith, h.fits, c.count_of-rule.ensures.fits);
      rule = omega (arith, more, count, h.rule);
      marks = mark_set bits len rows c.args.marks.now l.marks l.i h.marks c.mark_at.result b c.mark_at.ensures (
        λ e. let m = c.mark_of.ensures.0 e in (m.0, idle.0 m.1),
        λ m. c.mark_of.ensures.1 (m.0, idle.1 m.1),
      );
    }

pub returns-clause-marks : goal.returns-clause-marks
returns-clause-marks g c =
    let l = c.loop-i in
    mark_end g.C.BitString.bits c.args.len c.args.rows.now c.args.marks.now l.marks l.i
    (omega (arith, l.invariant.size, c.loop-i-test.false)) l.invariant.marks (l.invariant.size ∙ sym c.requires.size)
