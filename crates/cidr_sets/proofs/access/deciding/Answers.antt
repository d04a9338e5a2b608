use Rattle.std.proofs.Common.{map, sym, ◌∙◌, subst, arith}
use Rattle.std.proofs.lemmas.Bool.{true≢false}
use Rattle.std.proofs.lemmas.List.{length-map}
use Rattle.cidr_table.proofs.MapLaws.{contains_nothing}
use Rattle.cidr_sets.specs.model.Sets.{IsSetOf, Meets}
use Rattle.cidr_sets.specs.model.FirstRules.{IsDeciding}
use Rattle.cidr_sets.proofs.FirstRules.{IsLeft, decided_before, deciding_within, decides_where_meets, index_ascending, index_pushed, index_skipped, left_all, left_less, left_same, network_there}
use Rattle.cidr_sets.proofs.access.deciding.Goals as goal
use Rattle.cidr_sets.proofs.access.deciding.Goals.{then-overlaps+in_ok-push+in_ok-remove, else-overlaps}

pub loop-i-init : goal.loop-i-init
loop-i-init g c =
    let f = g.C.BitString.bits in
    let ps = map (λ x. f x.network) c.args.rules.now in
    record {
      rest = left_all ps (f c.args.network.now) (map f c.insert.new.self) (rw c.new-rest.ensures at c.in_ok-insert.ensures.ok);
      indices = λ j. (
        λ d. absurd (contains_nothing j (rw c.new-out.ensures.items at d)),
        λ k. absurd (omega (arith, k.0)),
      );
      ascending = rw c.new-out.ensures.items (λ k lt. absurd (omega (arith, lt)));
    }

pub loop-i-preserved : goal.loop-i-preserved
loop-i-preserved g c =
    let f = g.C.BitString.bits in
    let l = c.loop-i in
    let h = l.invariant in
    let r = c.index-rules-i.result in
    let p = f c.args.network.now in
    let ps = map (λ x. f x.network) c.args.rules.now in
    let rest = map f l.rest in
    let there = network_there (λ x. f x.network) c.args.rules.now l.i r c.loop-i-test.true c.index-rules-i.is in
    let told = decides_where_meets ps l.i (f r.network) there p rest h.rest in
    elim c.if-overlaps.branch [
      | then-overlaps+in_ok-push+in_ok-remove w ↦ record {
        rest = rw w.rest-is (left_less ps l.i (f r.network) there p rest h.rest (map f w.remove.new.self) w.in_ok-remove.ensures.ok);
        indices = rw (w.out-is, w.in_ok-push.ensures.items)
            (index_pushed (IsDeciding 129 ps p) l.i l.out.items h.indices (told.0 (c.overlaps.ensures.0 w.if-overlaps.true)));
        ascending = rw (w.out-is, w.in_ok-push.ensures.items) (index_ascending (IsDeciding 129 ps p) l.i l.out.items h.indices h.ascending);
      }
      | else-overlaps w ↦
          let none : ¬ (Meets 129 rest (f r.network)) = λ m. true≢false (sym (c.overlaps.ensures.1 m) ∙ w.if-overlaps.false) in
          record {
            rest = rw w.rest-is (left_same ps l.i (f r.network) there p rest h.rest none);
            indices = rw w.out-is (index_skipped (IsDeciding 129 ps p) l.i l.out.items h.indices (λ d. none (told.1 d)));
            ascending = rw w.out-is h.ascending;
          }
    ]

pub returns-then-is_empty-clause-indices : goal.returns-then-is_empty-clause-indices
returns-then-is_empty-clause-indices g c =
    let f = g.C.BitString.bits in
    let l = c.loop-i in
    let h = l.invariant in
    let ps = map (λ r. f r.network) c.args.rules.now in
    let p = f c.args.network.now in
    let none = subst (λ s. IsSetOf 129 (IsLeft ps p l.i) (map f s)) (c.is_empty.ensures.0 c.if-is_empty.true) h.rest in
    λ j. (λ d. ((h.indices j).0 d).1, λ s. (h.indices j).1 (decided_before ps p l.i none j s, s))

pub returns-clause-indices : goal.returns-clause-indices
returns-clause-indices g c =
    let f = g.C.BitString.bits in
    let h = c.loop-i.invariant in
    let xs = c.args.rules.now in
    let ps = map (λ r. f r.network) xs in
    λ i. (
      λ d. ((h.indices i).0 d).1,
      λ s. (h.indices i).1 (omega (arith, deciding_within 129 ps (f c.args.network.now) i s, length-map xs (λ x. f x.network), c.loop-i-test.false), s),
    )
