use Rattle.std.proofs.Common.{◌+◌, ◌++◌, List, length, map, sym, ◌∙◌, ap, subst, arith, length-append}
use Rattle.std.proofs.lemmas.List.{length-map}
use Rattle.std.specs.Prelude.{Option, ℕ}
use Rattle.cidr_rules.specs.declared.comparing.Difference.{Difference}
use Rattle.cidr_rules.specs.declared.regions.Region.{Region}
use Rattle.cidr_rules.specs.Searches.{AreTold, index_at}
use Rattle.cidr_rules.proofs.Telling.{difference_of, told_more}
use Rattle.cidr_rules.proofs.comparing.push_pair.Goals as goal

pub returns-clause-told : goal.returns-clause-told
returns-clause-told g c =
    let n = g.A.FieldValue.number in
    let rules = c.args.rules.now in
    let others = c.args.others.now in
    let old = c.args.out.now.items in
    let news = c.in_ok-regions.regions.items in
    let pushed = c.in_ok-push_regions.ensures ∙ ap (λ (l : List (Region g.row.A.Denot)). old ++ map (difference_of c.index_of.result c.index_of-2.result) l) c.deref.ensures.value
    ∙ ap (λ (o : Option ℕ). old ++ map (difference_of o c.index_of-2.result) news) c.index_of.ensures
    ∙ ap (λ (o : Option ℕ). old ++ map (difference_of (index_at rules c.args.i) o) news) c.index_of-2.ensures in
    subst (λ (l : List (Difference g.row.A.Denot)). AreTold n rules others c.args.i (c.args.j + 1) l) (sym pushed)
    (told_more n rules c.args.i others c.args.j c.requires.first c.requires.second news c.in_ok-regions.ensures.regions old c.requires.told)

pub returns-clause-few : goal.returns-clause-few
returns-clause-few g c =
    let f : Region g.row.A.Denot → Difference g.row.A.Denot = difference_of c.index_of.result c.index_of-2.result in
    omega (
      arith,
      ap length c.in_ok-push_regions.ensures,
      length-append c.args.out.now.items (map f c.deref.result.now),
      length-map c.deref.result.now f,
      ap length c.deref.ensures.value,
      c.in_ok-regions.ensures.few,
    )
