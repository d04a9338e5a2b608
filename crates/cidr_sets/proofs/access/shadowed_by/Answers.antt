use Rattle.std.proofs.Common.{◌≡◌, ◌<◌, ℕ, Bool, List, [], ◌∷◌, ◌++◌, length, get_or, map, sym, ap, ◌∙◌, subst, arith, Some}
use Rattle.std.proofs.lemmas.List.{length-map, map-append, take_all, take_more}
use Rattle.std.proofs.lemmas.List.Elements.{All-push, Contains-get_or}
use Rattle.std.specs.List.{Contains}
use Rattle.cidr_table.proofs.Beginnings.{cmp_exact}
use Rattle.cidr_sets.specs.internal.Deciding.{AreUnreached, TellFirst}
use Rattle.cidr_sets.specs.model.FirstRules.{AreDecidingRules}
use Rattle.cidr_sets.proofs.Deciding.{table_tells}
use Rattle.cidr_sets.proofs.FirstRules.{deciding_rules, network_there}
use Rattle.cidr_sets.proofs.access.shadowed_by.Goals as goal

-- a listed rule is one of the rules
listed_within : (ps : List (List Bool)) (n : ℕ) (listed items : List ℕ) (k : ℕ) → items ≡ listed → k < length items → AreUnreached ps n listed → get_or items k 0 < n
listed_within ps n listed items k e lt h = ((h.exact (get_or items k 0)).0 (subst (λ xs. Contains xs (get_or items k 0)) e (Contains-get_or items k 0 lt))).0

pub bounds-rules-rule : goal.bounds-rules-rule
bounds-rules-rule g c =
    listed_within (map (λ r. g.C.BitString.bits r.network) c.args.rules.now) (length c.args.rules.now) c.in_ok-parts.field-0.unreached.items c.deref-rule-items.result.now
    c.loop-rule.rule-index c.deref-rule-items.ensures.value c.loop-rule-test.true c.in_ok-parts.ensures.unreached

pub offset_bounds-rules-rule : goal.offset_bounds-rules-rule
offset_bounds-rules-rule g c = let e = bounds-rules-rule g c in omega (arith, e)

pub loop-rule-preserved : goal.loop-rule-preserved
loop-rule-preserved g c =
    let f = g.C.BitString.bits in
    let l = c.loop-rule in
    let items = c.deref-rule-items.result.now in
    let ps = map (λ r. f r.network) c.args.rules.now in
    let rule : ℕ = get_or items l.rule-index 0 in
    let within = listed_within ps (length c.args.rules.now) c.in_ok-parts.field-0.unreached.items items
    l.rule-index c.deref-rule-items.ensures.value c.loop-rule-test.true c.in_ok-parts.ensures.unreached in
    let there = network_there (λ r. f r.network) c.args.rules.now rule c.index-rules-rule.result within c.index-rules-rule.is
    ∙ ap (λ r. Some (f r.network)) c.index-rules-rule.is in
    let tells = table_tells f g.C.Ord.cmp g.met.C.Ord.total (cmp_exact g.C.Ord.cmp f g.met.C.NetworkBits.ordered g.met.C.NetworkBits.determined)
    ps (length ps) c.in_ok-parts.field-0.parts.items c.from_rows-parts.result.rows c.from_rows-parts.ensures.rows
    (subst (λ n. TellFirst f ps n c.in_ok-parts.field-0.parts.items) (sym (length-map c.args.rules.now (λ r. f r.network))) c.in_ok-parts.ensures.parts) in
    let by = c.in_ok-by.by in
    let told = deciding_rules 129 ps rule (f (get_or c.args.rules.now rule c.index-rules-rule.result).network) by.items there
    (c.in_ok-by.ensures.indices ps tells) c.in_ok-by.ensures.ascending in
    rw c.in_ok-push.ensures.items (record {
      rules = map-append (λ s. s.rule) l.out.items (record { rule = rule; by = by } ∷ [])
          ∙ ap (λ xs. xs ++ rule ∷ []) l.invariant.rules ∙ sym (take_more items l.rule-index 0 c.loop-rule-test.true);
      by = All-push (λ s. AreDecidingRules 129 ps s.rule s.by.items) l.out.items (record { rule = rule; by = by }) l.invariant.by told;
    })

pub returns-clause-rules : goal.returns-clause-rules
returns-clause-rules g c =
    let l = c.loop-rule in
    let items = c.deref-rule-items.result.now in
    let h = c.in_ok-parts.ensures.unreached in
    let all = l.invariant.rules ∙ take_all l.rule-index items c.loop-rule-test.false ∙ c.deref-rule-items.ensures.value in
    rw all (λ i. (
      λ k. ((h.exact i).0 k).1,
      λ s. (h.exact i).1 (omega (arith, s.0, length-map c.args.rules.now (λ r. g.C.BitString.bits r.network)), s),
    ))

pub returns-clause-ascending : goal.returns-clause-ascending
returns-clause-ascending g c =
    let l = c.loop-rule in
    let all = l.invariant.rules ∙ take_all l.rule-index c.deref-rule-items.result.now c.loop-rule-test.false ∙ c.deref-rule-items.ensures.value in
    rw all c.in_ok-parts.ensures.unreached.ascending
