use Rattle.std.proofs.Common.{◌≡◌, ℕ, false, sym, ap, ◌∙◌, arith, Some}
use Rattle.std.proofs.lemmas.Bool.{true≢false}
use Rattle.std.proofs.lemmas.Option.{slice_get_within, slice_get-get_or, get_or_from_slice_get}
use Rattle.std.specs.List.{slice_get}
use Rattle.cidr_sets.proofs.FirstRules.{index_ascending, index_pushed, index_skipped}
use Rattle.cidr_routes.proofs.shadows.unmarked.Goals as goal
use Rattle.cidr_routes.proofs.shadows.unmarked.Goals.{then-not-is_marked+in_ok-push, else-not-is_marked}

pub loop-i-preserved : goal.loop-i-preserved
loop-i-preserved c =
    let l = c.loop-i in
    let h = l.invariant in
    let marks = c.args.marks.now in
    let free = λ (j : ℕ). slice_get marks j ≡ Some false in
    elim c.if-not-is_marked.branch [
      | then-not-is_marked+in_ok-push w ↦ record {
        indices = rw (w.out-is, w.in_ok-push.ensures.items)
            (index_pushed free l.i l.out.items h.indices (slice_get-get_or marks l.i false c.loop-i-test.true ∙ ap Some w.if-not-is_marked.true));
        ascending = rw (w.out-is, w.in_ok-push.ensures.items) (index_ascending free l.i l.out.items h.indices h.ascending);
      }
      | else-not-is_marked w ↦ record {
        indices = rw w.out-is (index_skipped free l.i l.out.items h.indices
            (λ e. true≢false (sym w.if-not-is_marked.false ∙ get_or_from_slice_get marks l.i false false e)));
        ascending = rw w.out-is h.ascending;
      }
    ]

pub returns-clause-indices : goal.returns-clause-indices
returns-clause-indices c i =
    let l = c.loop-i in
    let h = l.invariant.indices i in (
      λ k. (h.0 k).1,
      λ e.
          let within = slice_get_within c.args.marks.now i false e in
          h.1 (omega (arith, within, c.loop-i-test.false), e),
    )
