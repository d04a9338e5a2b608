use Rattle.std.proofs.Common.{rules, ◌≡◌, ◌<◌, ◌≤◌, ℕ, Some, List, length, ◌∙◌, ap, arith}
use Rattle.std.proofs.lemmas.Bool.{MatchBool-at_true, MatchBool-at_false}
use Rattle.std.proofs.lemmas.List.{take_all}
use Rattle.cidr_rules.specs.Lists.{IsShadowed, decided, is_permitted, most_parts}
use Rattle.cidr_rules.proofs.Pairs.{row_more, step_le}
use Rattle.cidr_rules.proofs.Needless.{alike_pushed, alike_without}
use Rattle.cidr_rules.proofs.shadows.pruned.Goals as goal
use Rattle.cidr_rules.proofs.shadows.pruned.Goals.{then-not-dead+in_ok-push, else-not-dead}

pub loop-i-preserved : goal.loop-i-preserved
loop-i-preserved g c =
    let xs = c.args.rules.now in
    let l = c.loop-i in
    let lt : l.i < length xs = omega arith in
    let Used : Type 0 = (x : List ℕ) × (decided g.A.FieldValue.number xs x ≡ Some l.i) in
    let step = row_more l.i (most_parts (length xs)) in
    elim c.if-not-dead.branch [
      | then-not-dead+in_ok-push w ↦
          let used : Used = MatchBool-at_false (IsShadowed g.A.FieldValue.number xs l.i) Used w.if-not-dead.true c.in_ok-dead.ensures.answer in
          record {
            alike = rw (w.out-is, w.in_ok-push.ensures.items)
                (alike_pushed g.A.FieldValue.number xs l.i w.index-rules-i.result lt w.index-rules-i.is l.out.items l.invariant.alike used.0 used.1);
            spent = omega (arith, step, c.in_ok-dead.ensures.spent, l.invariant.spent);
          }
      | else-not-dead w ↦
          let gone : IsShadowed g.A.FieldValue.number xs l.i = MatchBool-at_true (IsShadowed g.A.FieldValue.number xs l.i) Used w.if-not-dead.false c.in_ok-dead.ensures.answer in
          record {
            alike = rw w.out-is (alike_without g.A.FieldValue.number xs l.i lt l.out.items l.invariant.alike gone);
            spent = omega (arith, step, c.in_ok-dead.ensures.spent, l.invariant.spent);
          }
    ]

pub returns-clause-same : goal.returns-clause-same
returns-clause-same g c =
    let le : length c.args.rules.now ≤ c.loop-i.i = omega arith in
    λ x. c.loop-i.invariant.alike.permitted x ∙ ap (λ l. is_permitted g.A.FieldValue.number l x) (take_all c.loop-i.i c.args.rules.now le)

pub returns-in_err-dead-clause-limit : goal.returns-in_err-dead-clause-limit
returns-in_err-dead-clause-limit g c =
    let step = step_le c.loop-i.i (length c.args.rules.now) (most_parts (length c.args.rules.now)) (omega arith) in
    λ e. omega (arith, step, c.in_err-dead.ensures.limit (search rules), c.loop-i.invariant.spent)
