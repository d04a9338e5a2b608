use Rattle.std.proofs.Common.{◌∙◌, ap, sym, length, length-append, ℕ, List, [], ◌∷◌, ◌++◌, append_assoc}
use Rattle.netset_commands.proofs.input.keeping.begin_line.Goals as goal

pub returns-clause-added : goal.returns-clause-added
returns-clause-added g c skip =
    let old : List ℕ = c.args.text.now.items in (
      (rw (sym c.in_ok-watch.ensures.made) at c.extend_from_slice-added.ensures.items)
          ∙ (ap (λ (k : List ℕ). k ++ c.args.line.now) c.in_ok-push.ensures.pushed ∙ append_assoc old (10 ∷ []) c.args.line.now),
      c.len-len.ensures ∙ (c.push.new.items.ok.0 ∙ (ap length c.in_ok-push.ensures.pushed ∙ length-append old (10 ∷ []))),
    )
