use Rattle.std.proofs.Common.{◌≡◌, ◌<◌, ◌++◌, ◌∷◌, [], ℕ, true, false, get_or, set, take, length, map, ap, sym, ◌∙◌, subst, arith}
use Rattle.std.proofs.lemmas.Bool.{true≢false}
use Rattle.std.proofs.lemmas.List.{map-append, take_all, take_more}
use Rattle.std.proofs.Math.ListN.{length-set}
use Rattle.cidr_sets.proofs.Deciding.{AreMarked, marked_more}
use Rattle.cidr_sets.proofs.FirstRules.{index_ascending, index_pushed, index_skipped}
use Rattle.cidr_sets.proofs.decisions.unreached_in.Goals as goal
use Rattle.cidr_sets.proofs.decisions.unreached_in.Goals.{then-not-is_reached+in_ok-push, else-not-is_reached}

pub index_mut-requires : goal.index_mut-requires
index_mut-requires g c =
    let within = c.requires c.part-item.result (c.loop-part.part-index, c.loop-part-test.true, sym c.part-item.is) in
    omega (arith, within, c.loop-part.invariant.size, c.loop-part.reached.ok.0)

pub loop-part-preserved : goal.loop-part-preserved
loop-part-preserved g c =
    let l = c.loop-part in
    let xs = c.args.parts.now in
    let row = c.part-item.result in
    let index = λ (part : g.row.C.Denot × ℕ). part.1 in
    let marks = l.reached.items in
    let within : row.1 < length marks = omega (arith, c.requires row (l.part-index, c.loop-part-test.true, sym c.part-item.is), l.invariant.size) in
    let more = ap (map index) (take_more xs l.part-index row c.loop-part-test.true ∙ ap (λ r. take l.part-index xs ++ r ∷ []) (sym c.part-item.is))
    ∙ map-append index (take l.part-index xs) (row ∷ []) in
    record {
      size = length-set marks row.1 true ∙ l.invariant.size;
      marked = subst (AreMarked c.args.count (set marks row.1 true)) (sym more)
          (marked_more c.args.count marks (map index (take l.part-index xs)) row.1 within l.invariant.marked);
    }

pub loop-index-preserved : goal.loop-index-preserved
loop-index-preserved g c =
    let l = c.loop-index in
    let h = l.invariant in
    let marks = c.deref-is_reached-items.result.now in
    let free = λ (j : ℕ). ¬ (get_or marks j false ≡ true) in
    elim c.if-not-is_reached.branch [
      | then-not-is_reached+in_ok-push w ↦ record {
        indices = rw (w.out-is, w.in_ok-push.ensures.items)
            (index_pushed free l.index l.out.items h.indices (λ e. true≢false (sym e ∙ w.if-not-is_reached.true)));
        ascending = rw (w.out-is, w.in_ok-push.ensures.items) (index_ascending free l.index l.out.items h.indices h.ascending);
      }
      | else-not-is_reached w ↦ record {
        indices = rw w.out-is (index_skipped free l.index l.out.items h.indices (λ n. n w.if-not-is_reached.false));
        ascending = rw w.out-is h.ascending;
      }
    ]

pub returns-clause-indices : goal.returns-clause-indices
returns-clause-indices g c j =
    let xs = c.args.parts.now in
    let count = c.args.count in
    let lp = c.loop-part in
    let l = c.loop-index in
    let h = l.invariant.indices j in
    let index = λ (part : g.row.C.Denot × ℕ). part.1 in
    let marks = c.deref-is_reached-items.result.now in
    let same = c.deref-is_reached-items.ensures.value in
    let told : AreMarked count marks (map index xs) = subst (λ m. AreMarked count m (map index xs)) (sym same)
    (subst (AreMarked count lp.reached.items) (ap (map index) (take_all lp.part-index xs c.loop-part-test.false)) lp.invariant.marked) in
    let size : length marks ≡ count = ap length same ∙ lp.invariant.size in (
      λ k.
          let d = h.0 k in
          let below : j < count = omega (arith, d.0, size) in
          (below, λ m. d.1 ((told j below).1 m)),
      λ k. h.1 (omega (arith, k.0, size, c.loop-index-test.false), λ m. k.1 ((told j k.0).0 m)),
    )
