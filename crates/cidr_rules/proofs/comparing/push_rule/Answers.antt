use Rattle.std.proofs.Common.{◌≡◌, ◌+◌, ℕ, rules, length, subst, arith}
use Rattle.cidr_rules.specs.Lists.{most_parts}
use Rattle.cidr_rules.specs.Searches.{AreTold}
use Rattle.cidr_rules.proofs.Pairs.{row_more, step_le}
use Rattle.cidr_rules.proofs.Telling.{told_row}
use Rattle.cidr_rules.proofs.comparing.push_rule.Goals as goal

pub loop-j-init : goal.loop-j-init
loop-j-init g c = record { told = c.requires.told; few = omega arith; spent = omega arith }

pub loop-j-preserved : goal.loop-j-preserved
loop-j-preserved g c = record {
  told = c.in_ok-push_pair.ensures.told;
  few = omega (arith, c.in_ok-push_pair.ensures.few, c.loop-j.invariant.few);
  spent = omega (arith, row_more c.loop-j.j (most_parts (length c.args.rules.now + length c.args.others.now)), c.in_ok-push_pair.ensures.spent, c.loop-j.invariant.spent);
}

pub returns-in_err-push_pair-clause-limit : goal.returns-in_err-push_pair-clause-limit
returns-in_err-push_pair-clause-limit g c =
    let step = step_le c.loop-j.j (length c.args.others.now + 1) (most_parts (length c.args.rules.now + length c.args.others.now)) (omega arith) in
    λ e. omega (arith, step, c.in_err-push_pair.ensures.limit (search rules), c.loop-j.invariant.spent)

pub returns-clause-told : goal.returns-clause-told
returns-clause-told g c =
    told_row g.A.FieldValue.number c.args.rules.now c.args.others.now c.args.i c.push_pair-2.new.out.items c.in_ok-push_pair-2.ensures.told

pub returns-clause-few : goal.returns-clause-few
returns-clause-few g c = omega (arith, c.in_ok-push_pair-2.ensures.few, c.loop-j.invariant.few)

pub push_pair-requires-2-clause-told : goal.push_pair-requires-2-clause-told
push_pair-requires-2-clause-told g c =
    let end : c.loop-j.j ≡ length c.args.others.now = omega arith in
    subst (λ (n : ℕ). AreTold g.A.FieldValue.number c.args.rules.now c.args.others.now c.args.i n c.loop-j.out.items) end c.loop-j.invariant.told

pub returns-clause-spent : goal.returns-clause-spent
returns-clause-spent g c =
    let step = step_le c.loop-j.j (length c.args.others.now + 1) (most_parts (length c.args.rules.now + length c.args.others.now)) (omega arith) in
    omega (arith, step, c.in_ok-push_pair-2.ensures.spent, c.loop-j.invariant.spent)

pub returns-in_err-push_pair-2-clause-limit : goal.returns-in_err-push_pair-2-clause-limit
returns-in_err-push_pair-2-clause-limit g c =
    let step = step_le c.loop-j.j (length c.args.others.now + 1) (most_parts (length c.args.rules.now + length c.args.others.now)) (omega arith) in
    λ e. omega (arith, step, c.in_err-push_pair-2.ensures.limit (search rules), c.loop-j.invariant.spent)
