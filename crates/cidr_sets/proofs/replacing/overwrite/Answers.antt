use Rattle.std.proofs.Common.{◌≡◌, ◌+◌, ◌-◌, ◌++◌, take, drop, ap, ap₂, sym, ◌∙◌, arith, append_assoc}
use Rattle.std.proofs.lemmas.List.{drop-drop}
use Rattle.cidr_sets.proofs.replacing.overwrite.Goals as goal

pub returns : goal.returns
returns g c =
    let xs = c.args.elements.now in
    let from = c.args.from in
    let at : from + (c.args.end - from) ≡ c.args.end = omega (arith, c.requires.end) in
    let rest : drop (c.args.end - from) (drop from xs) ≡ drop c.args.end xs = drop-drop (c.args.end - from) from xs ∙ ap (λ k. drop k xs) at in
    ap₂ (λ u v. take from xs ++ (u ++ v)) c.copy_from_slice.ensures.after rest
    ∙ sym (append_assoc (take from xs) c.args.new.now (drop c.args.end xs))
