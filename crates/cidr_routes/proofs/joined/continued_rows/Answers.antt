use Rattle.std.proofs.Common.{◌≡◌, ◌+◌, ◌++◌, ◌∷◌, [], take, map, sym, ap, ◌∙◌, subst}
use Rattle.std.proofs.lemmas.List.{take_more}
use Rattle.cidr.specs.model.Network.{width_of}
use Rattle.cidr_routes.specs.Lengths.{AreContinued}
use Rattle.cidr_routes.proofs.PermitRows.{continued_more}
use Rattle.cidr_routes.proofs.joined.continued_rows.Goals as goal

pub continued-requires : goal.continued-requires
continued-requires g c = c.requires c.row-item.result (c.loop-row.row-index, c.loop-row-test.true, sym c.row-item.is)

pub loop-row-preserved : goal.loop-row-preserved
loop-row-preserved g c =
    let bits = g.C.BitString.bits in
    let w = width_of g.C.FamilyCidr.FAMILY in
    let l = c.loop-row in
    let row = c.row-item.result in
    let all = c.args.before.now in
    let set = map bits c.args.set.now in
    let more : take (l.row-index + 1) all ≡ take l.row-index all ++ row ∷ [] =
    take_more all l.row-index row c.loop-row-test.true ∙ ap (λ r. take l.row-index all ++ r ∷ []) (sym c.row-item.is) in
    rw c.in_ok-push.ensures.items
    (subst (λ rows. AreContinued bits w set c.args.len rows (l.out.items ++ c.continued.result ∷ [])) (sym more)
    (continued_more bits w set c.args.len (take l.row-index all) l.out.items row c.continued.result l.invariant c.continued.ensures))
