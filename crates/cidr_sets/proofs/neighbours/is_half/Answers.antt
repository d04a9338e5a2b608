use Rattle.std.proofs.Common.{◌+◌, eqb-true, eq-eqb, sym, ap, ◌∙◌}
use Rattle.std.proofs.lemmas.Bool.{false≢true}
use Rattle.cidr_sets.proofs.neighbours.is_half.Goals as goal

pub returns-then-is_inside : goal.returns-then-is_inside
returns-then-is_inside g c =
    let is = c.len.ensures.value in
    let other = ap (λ k. k + 1) c.len-then-is_inside.ensures.value in (
      λ t. (c.is_inside.ensures.0 c.if-is_inside.true, sym is ∙ eqb-true c.len.result (c.len-then-is_inside.result + 1) t ∙ other),
      λ h. eq-eqb c.len.result (c.len-then-is_inside.result + 1) (is ∙ h.1 ∙ sym other),
    )

pub returns-else-is_inside : goal.returns-else-is_inside
returns-else-is_inside g c = (λ t. absurd (false≢true (sym c.if-is_inside.false ∙ t)), λ h. c.is_inside.ensures.1 h.0)
