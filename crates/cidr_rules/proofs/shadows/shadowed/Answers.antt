use Rattle.std.proofs.Common.{rules, ◌≡◌, ℕ, Some, List, length, arith}
use Rattle.std.proofs.lemmas.Bool.{MatchBool-at_true, MatchBool-at_false}
use Rattle.cidr_rules.specs.Lists.{IsShadowed, decided, most_parts}
use Rattle.cidr_rules.proofs.Pairs.{row_more, step_le}
use Rattle.cidr_rules.proofs.Needless.{index_pushed, index_skipped}
use Rattle.cidr_rules.proofs.shadows.shadowed.Goals as goal
use Rattle.cidr_rules.proofs.shadows.shadowed.Goals.{then-dead+in_ok-push, else-dead}

pub loop-i-preserved : goal.loop-i-preserved
loop-i-preserved g c =
    let xs = c.args.rules.now in
    let l = c.loop-i in
    let Used : Type 0 = (x : List ℕ) × (decided g.A.FieldValue.number xs x ≡ Some l.i) in
    let step = row_more l.i (most_parts (length xs)) in
    elim c.if-dead.branch [
      | then-dead+in_ok-push w ↦
          let gone : IsShadowed g.A.FieldValue.number xs l.i = MatchBool-at_true (IsShadowed g.A.FieldValue.number xs l.i) Used w.if-dead.true c.in_ok-dead.ensures.answer in
          record {
            indices = rw (w.out-is, w.in_ok-push.ensures.items) (index_pushed (IsShadowed g.A.FieldValue.number xs) l.i l.out.items l.invariant.indices gone);
            spent = omega (arith, step, c.in_ok-dead.ensures.spent, l.invariant.spent);
          }
      | else-dead w ↦
          let used : Used = MatchBool-at_false (IsShadowed g.A.FieldValue.number xs l.i) Used w.if-dead.false c.in_ok-dead.ensures.answer in
          record {
            indices = rw w.out-is (index_skipped (IsShadowed g.A.FieldValue.number xs) l.i l.out.items l.invariant.indices (λ s. s.1 used.0 used.1));
            spent = omega (arith, step, c.in_ok-dead.ensures.spent, l.invariant.spent);
          }
    ]

pub returns-clause-indices : goal.returns-clause-indices
returns-clause-indices g c =
    let h = c.loop-i.invariant.indices.indices in
    λ i. (
      λ d. ((h i).0 d).1,
      λ s. (h i).1 (omega (arith, s.0, c.loop-i-test.false), s),
    )

pub returns-in_err-dead-clause-limit : goal.returns-in_err-dead-clause-limit
returns-in_err-dead-clause-limit g c =
    let step = step_le c.loop-i.i (length c.args.rules.now) (most_parts (length c.args.rules.now)) (omega arith) in
    λ e. omega (arith, step, c.in_err-dead.ensures.limit (search rules), c.loop-i.invariant.spent)
