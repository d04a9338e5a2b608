use Rattle.std.proofs.Common.{◌≡◌, sym, ap, ap₂, ◌∙◌, arith, ℕ, ◌<◌, ◌≤◌, ◌+◌, ◌++◌, ◌∷◌, List, append_assoc, get_or, get_or-take, length, length-take-le, take, drop, take-append-drop}
use Rattle.std.proofs.lemmas.List.{drop_more, take-take}
use Rattle.cidr_lookup.proofs.Lists.{not_put}
use Rattle.cidr_lookup.proofs.Nodes.{on_err}
use Rattle.cidr_lookup.proofs.node.put_words.Goals as goal

-- words of which some come first
split : (words : List ℕ) (count at : ℕ) → at < count → count ≤ length words → take count words ≡ take at words ++ get_or words at 0 ∷ drop (at + 1) (take count words)
split words count at l le =
    let t = take count words in
    sym (take-append-drop at t)
    ∙ ap₂ (λ x y. x ++ y) (take-take at count words (omega arith))
    (drop_more t at 0 (omega (arith, length-take-le count words le)) ∙ ap (λ (w : ℕ). w ∷ drop (at + 1) t) (get_or-take count words at 0 l))

pub returns-in_err-push-clause-stopped : goal.returns-in_err-push-clause-stopped
returns-in_err-push-clause-stopped g c =
    let words = c.args.words.now in
    let at = c.loop-at.at in
    let old = g.S.Sink.put c.args.sink.now in
    let put = g.S.Sink.put c.loop-at.sink in
    let rest = drop (at + 1) (take c.args.count words) in
    let word = get_or words at 0 in
    on_err c.from_residual.result (not_put put rest (old ++ take c.args.count words) word (g.S.Sink.put c.push.new.self) (g.S.Sink.refuses c.push.new.self)
    (ap (λ x. x ++ word ∷ rest) c.loop-at.invariant.put
    ∙ (append_assoc old (take at words) (word ∷ rest) ∙ ap (λ x. old ++ x) (sym (split words c.args.count at c.loop-at-test.true c.requires))))
    c.in_err-push.ensures.refused.0 c.in_err-push.ensures.refused.1)
