use Rattle.std.proofs.Common.{[], ◌∷◌, ◌++◌, map, take, ap, sym, ◌∙◌, subst}
use Rattle.std.proofs.lemmas.List.{map-append, take_all, take_more}
use Rattle.cidr_table.specs.model.Cover.{Covers}
use Rattle.cidr_sets.specs.model.Sets.{IsSetOf}
use Rattle.cidr_sets.proofs.access.matched_by.Goals as goal

pub loop-rule-preserved : goal.loop-rule-preserved
loop-rule-preserved g c =
    let f = g.C.BitString.bits in
    let l = c.loop-rule in
    let xs = c.args.rules.now in
    let x = c.rule-item.result in
    let more = take_more xs l.rule-index x c.loop-rule-test.true ∙ ap (λ r. take l.rule-index xs ++ r ∷ []) (sym c.rule-item.is) in
    rw c.in_ok-push.ensures.items
    (map-append f l.networks.items (x.network ∷ [])
    ∙ (ap (λ ps. ps ++ f x.network ∷ []) l.invariant
    ∙ (sym (map-append (λ r. f r.network) (take l.rule-index xs) (x ∷ [])) ∙ sym (ap (map (λ r. f r.network)) more))))

pub returns : goal.returns
returns g c =
    let f = g.C.BitString.bits in
    let l = c.loop-rule in
    let xs = c.args.rules.now in
    let all = l.invariant ∙ ap (map (λ r. f r.network)) (take_all l.rule-index xs c.loop-rule-test.false) in
    subst (λ ps. IsSetOf 129 (Covers ps) (map f c.from_vec.result)) all c.from_vec.ensures.set
