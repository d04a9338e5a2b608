use Rattle.std.proofs.Common.{rules, ◌*◌, length, arith}
use Rattle.std.proofs.lemmas.Bool.{MatchBool-at_true, MatchBool-at_false}
use Rattle.cidr_rules.specs.Lists.{IsRedundant, most_parts}
use Rattle.cidr_rules.proofs.Pairs.{row_more, step_le}
use Rattle.cidr_rules.proofs.Needless.{index_pushed, index_skipped}
use Rattle.cidr_rules.proofs.shadows.redundant.Goals as goal
use Rattle.cidr_rules.proofs.shadows.redundant.Goals.{then-free+in_ok-push, else-free}

pub loop-i-preserved : goal.loop-i-preserved
loop-i-preserved g c =
    let xs = c.args.rules.now in
    let l = c.loop-i in
    let S = IsRedundant g.A.FieldValue.number xs in
    let step = row_more l.i (length xs * most_parts (2 * length xs)) in
    elim c.if-free.branch [
      | then-free+in_ok-push w ↦ record {
        indices = rw (w.out-is, w.in_ok-push.ensures.items) (index_pushed S l.i l.out.items l.invariant.indices
            (MatchBool-at_true (S l.i) (¬ (S l.i)) w.if-free.true c.in_ok-free.ensures.answer));
        rest = c.put_back.ensures;
        spent = omega (arith, step, c.in_ok-free.ensures.spent, l.invariant.spent);
      }
      | else-free w ↦ record {
        indices = rw w.out-is (index_skipped S l.i l.out.items l.invariant.indices
            (MatchBool-at_false (S l.i) (¬ (S l.i)) w.if-free.false c.in_ok-free.ensures.answer));
        rest = c.put_back.ensures;
        spent = omega (arith, step, c.in_ok-free.ensures.spent, l.invariant.spent);
      }
    ]

pub returns-clause-indices : goal.returns-clause-indices
returns-clause-indices g c =
    let h = c.loop-i.invariant.indices.indices in
    λ i. (
      λ d. ((h i).0 d).1,
      λ s. (h i).1 (omega (arith, s.0, c.loop-i-test.false), s),
    )

pub returns-in_err-free-clause-limit : goal.returns-in_err-free-clause-limit
returns-in_err-free-clause-limit g c =
    let step = step_le c.loop-i.i (length c.args.rules.now) (length c.args.rules.now * most_parts (2 * length c.args.rules.now)) (omega arith) in
    λ e. omega (arith, step, c.in_err-free.ensures.limit (search rules), c.loop-i.invariant.spent)
