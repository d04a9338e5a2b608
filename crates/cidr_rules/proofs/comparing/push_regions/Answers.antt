use Rattle.std.proofs.Common.{◌≡◌, ◌<◌, ◌≤◌, ◌+◌, ◌++◌, ◌∷◌, [], List, length, map, take, sym, ◌∙◌, ap, append_assoc, arith}
use Rattle.std.proofs.lemmas.List.{map_more, take_all}
use Rattle.cidr_rules.specs.declared.regions.Region.{Region}
use Rattle.cidr_rules.specs.declared.comparing.Difference.{Difference}
use Rattle.cidr_rules.proofs.Telling.{difference_of}
use Rattle.cidr_rules.proofs.comparing.push_regions.Goals as goal

pub loop-region-preserved : goal.loop-region-preserved
loop-region-preserved g c =
    let f : Region g.row.A.Denot → Difference g.row.A.Denot = difference_of c.args.rule c.args.other in
    let lt : c.loop-region.region-index < length c.args.regions.now = omega arith in
    let one = f c.region-item.result in
    let more = map_more f c.args.regions.now c.loop-region.region-index c.region-item.result lt in
    let same : map f (take (c.loop-region.region-index + 1) c.args.regions.now) ≡ map f (take c.loop-region.region-index c.args.regions.now) ++ one ∷ []
    = more ∙ ap (λ (r : Region g.row.A.Denot). map f (take c.loop-region.region-index c.args.regions.now) ++ f r ∷ []) (sym c.region-item.is) in
    c.in_ok-push.ensures.items ∙ ap (λ (l : List (Difference g.row.A.Denot)). l ++ one ∷ []) c.loop-region.invariant
    ∙ append_assoc c.args.out.now.items (map f (take c.loop-region.region-index c.args.regions.now)) (one ∷ [])
    ∙ ap (λ (l : List (Difference g.row.A.Denot)). c.args.out.now.items ++ l) (sym same)

pub returns : goal.returns
returns g c =
    let le : length c.args.regions.now ≤ c.loop-region.region-index = omega arith in
    rw (take_all c.loop-region.region-index c.args.regions.now le) at c.loop-region.invariant
