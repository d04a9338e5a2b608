use Rattle.std.proofs.Common.{◌≡◌, ◌+◌, ◌*◌, ℕ, rules, List, length, sym, ap, subst, arith}
use Rattle.cidr_rules.specs.declared.comparing.Difference.{Difference}
use Rattle.cidr_rules.specs.Lists.{most_parts}
use Rattle.cidr_rules.specs.Searches.{AreTold}
use Rattle.cidr_rules.proofs.Pairs.{row_more, step_le}
use Rattle.cidr_rules.proofs.Telling.{told_never, told_once, told_start}
use Rattle.cidr_rules.proofs.comparing.differences.Goals as goal

pub loop-i-init : goal.loop-i-init
loop-i-init g c = record {
  told = subst (λ (l : List (Difference g.row.A.Denot)). AreTold g.A.FieldValue.number c.args.rules.now c.args.others.now 0 0 l) (sym c.new-out.ensures.items)
      (told_start g.A.FieldValue.number c.args.rules.now c.args.others.now);
  few = omega (arith, ap length c.new-out.ensures.items);
  spent = omega arith;
}

pub loop-i-preserved : goal.loop-i-preserved
loop-i-preserved g c = record {
  told = c.in_ok-push_rule.ensures.told;
  few = omega (arith, c.in_ok-push_rule.ensures.few, c.loop-i.invariant.few);
  spent = omega (
    arith,
    row_more c.loop-i.i ((length c.args.others.now + 1) * most_parts (length c.args.rules.now + length c.args.others.now)),
    c.in_ok-push_rule.ensures.spent,
    c.loop-i.invariant.spent,
  );
}

pub returns-in_err-push_rule-clause-limit : goal.returns-in_err-push_rule-clause-limit
returns-in_err-push_rule-clause-limit g c =
    let step = step_le c.loop-i.i (length c.args.rules.now + 1) ((length c.args.others.now + 1) * most_parts (length c.args.rules.now + length c.args.others.now)) (omega arith) in
    λ e. omega (arith, step, c.in_err-push_rule.ensures.limit (search rules), c.loop-i.invariant.spent)

pub returns-in_err-push_rule-2-clause-limit : goal.returns-in_err-push_rule-2-clause-limit
returns-in_err-push_rule-2-clause-limit g c =
    let step = step_le c.loop-i.i (length c.args.rules.now + 1) ((length c.args.others.now + 1) * most_parts (length c.args.rules.now + length c.args.others.now)) (omega arith) in
    λ e. omega (arith, step, c.in_err-push_rule-2.ensures.limit (search rules), c.loop-i.invariant.spent)

pub returns-clause-told : goal.returns-clause-told
returns-clause-told g c = c.in_ok-push_rule-2.ensures.told.each

pub returns-clause-once : goal.returns-clause-once
returns-clause-once g c = told_once g.A.FieldValue.number c.args.rules.now c.args.others.now c.push_rule-2.new.out.items c.in_ok-push_rule-2.ensures.told

pub returns-clause-no_other : goal.returns-clause-no_other
returns-clause-no_other g c = told_never g.A.FieldValue.number c.args.rules.now c.args.others.now c.push_rule-2.new.out.items c.in_ok-push_rule-2.ensures.told

pub returns-clause-joined : goal.returns-clause-joined
returns-clause-joined g c = c.in_ok-push_rule-2.ensures.told.joined

pub returns-clause-few : goal.returns-clause-few
returns-clause-few g c = omega (arith, c.in_ok-push_rule-2.ensures.few, c.loop-i.invariant.few)

pub push_rule-requires-2-clause-told : goal.push_rule-requires-2-clause-told
push_rule-requires-2-clause-told g c =
    let end : c.loop-i.i ≡ length c.args.rules.now = omega arith in
    subst (λ (n : ℕ). AreTold g.A.FieldValue.number c.args.rules.now c.args.others.now n 0 c.loop-i.out.items) end c.loop-i.invariant.told
