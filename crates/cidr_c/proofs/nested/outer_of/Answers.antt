use Rattle.std.proofs.Common.{◌≡◌, ℕ, ◌-◌, ◌∙◌, ap, arith, subst, sym, get_or, slice_get, Some}
use Rattle.std.proofs.lemmas.Bool.{true≢false}
use Rattle.std.proofs.lemmas.Option.{slice_get-get_or}
use Rattle.cidr_lists.specs.Findings.{AreBitsInside}
use Rattle.cidr_c.proofs.Outers.{on_to_outer}
use Rattle.cidr_c.proofs.nested.outer_of.Goals as goal

pub loop-end-preserved : goal.loop-end-preserved
loop-end-preserved g c =
    let bits = g.C.BitString.bits in
    let rows = c.args.rows.now in
    let inner = c.args.inner in
    let end = c.loop-end.end in
    let row = c.index-rows-inner.result in
    let other = c.index-rows-end.result in
    let upto = c.loop-end.invariant.upto in
    let here : slice_get rows inner ≡ Some row = slice_get-get_or rows inner row c.requires.inner ∙ ap Some (sym c.index-rows-inner.is) in
    let there : slice_get rows (end - 1) ≡ Some other = slice_get-get_or rows (end - 1) other (omega (arith, upto, c.requires.inner, c.loop-end-test.true)) ∙ ap Some (sym c.index-rows-end.is) in
    let read : AreBitsInside (bits row.0) (bits other.0) → AreBitsInside (bits (get_or rows inner row).0) (bits (get_or rows (end - 1) other).0) =
    λ l.
    subst (λ (r : g.row.C.Denot × ℕ). AreBitsInside (bits r.0) (bits (get_or rows (end - 1) other).0)) c.index-rows-inner.is
    (subst (λ (r : g.row.C.Denot × ℕ). AreBitsInside (bits row.0) (bits r.0)) c.index-rows-end.is l) in
    let its = c.requires.before.each (end - 1) (omega (arith, upto, c.loop-end-test.true)) in
    record {
      upto = omega (arith, its.upto, upto);
      last = on_to_outer bits rows c.requires.rows c.args.outers.now inner end row here other c.loop-end-test.true upto there
          (λ larger. true≢false (sym (c.is_smaller_inside.ensures.1 (read larger)) ∙ c.if-is_smaller_inside.false)) its c.loop-end.invariant.last;
    }
