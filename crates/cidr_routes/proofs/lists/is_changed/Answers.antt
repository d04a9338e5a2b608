use Rattle.std.proofs.Common.{◌≡◌, ◌-◌, ◌+◌, ◌++◌, ◌∷◌, [], take, rules, sym, ap, ◌∙◌, subst, inl, inr}
use Rattle.std.proofs.lemmas.List.{take_all, take_more}
use Rattle.std.proofs.lemmas.List.Elements.{Contains-push_cases}
use Rattle.std.specs.List.{Contains}
use Rattle.cidr_routes.specs.Lengths.{has_length, rules_of}
use Rattle.cidr_routes.proofs.Lengths.{rules_alike, told}
use Rattle.cidr_routes.proofs.lists.is_changed.Goals as goal

pub loop-row-preserved : goal.loop-row-preserved
loop-row-preserved g c =
    let bits = g.C.BitString.bits in
    let l = c.loop-row in
    let row = c.row-item.result in
    let rows = c.args.rows.now in
    let alike : c.has_length-here.result ≡ c.has_length-before.result = c.is_same.ensures.0 (search (rules, c.if-not-is_same.false)) in
    let one : has_length bits c.args.len row ≡ has_length bits (c.args.len - 1) row =
    told bits c.has_length-here.result c.args.len row c.has_length-here.ensures
    ∙ (alike ∙ sym (told bits c.has_length-before.result (c.args.len - 1) row c.has_length-before.ensures)) in
    let more : take (l.row-index + 1) rows ≡ take l.row-index rows ++ row ∷ [] =
    take_more rows l.row-index row c.loop-row-test.true ∙ ap (λ r. take l.row-index rows ++ r ∷ []) (sym c.row-item.is) in
    record {
      same = rules_alike bits c.args.len rows l.row-index row c.loop-row-test.true c.row-item.is (c.args.len - 1) one l.invariant.same;
      each = λ r d. elim (Contains-push_cases (take l.row-index rows) row r (subst (λ rs. Contains rs r) more d)) [
        | inl k ↦ l.invariant.each r k
        | inr e ↦ subst (λ x. has_length bits c.args.len x ≡ has_length bits (c.args.len - 1) x) e one
      ];
    }

pub returns-clause-same : goal.returns-clause-same
returns-clause-same g c = λ _.
    let bits = g.C.BitString.bits in
    let l = c.loop-row in
    subst (λ rows. rules_of bits c.args.len rows ≡ rules_of bits (c.args.len - 1) rows) (take_all l.row-index c.args.rows.now c.loop-row-test.false) l.invariant.same

pub returns-clause-each : goal.returns-clause-each
returns-clause-each g c = λ _ row d.
    let l = c.loop-row in
    l.invariant.each row (subst (λ rows. Contains rows row) (sym (take_all l.row-index c.args.rows.now c.loop-row-test.false)) d)
