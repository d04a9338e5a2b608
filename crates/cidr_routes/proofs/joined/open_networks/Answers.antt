use Rattle.std.proofs.Common.{◌≡◌, ◌↔◌, ◌+◌, ◌++◌, ◌∷◌, [], take, map, sym, ap, ◌∙◌, subst}
use Rattle.std.proofs.lemmas.Bool.{true≢false}
use Rattle.std.proofs.lemmas.List.{take_all, take_more}
use Rattle.std.specs.List.{Contains}
use Rattle.cidr.specs.model.Network.{width_of}
use Rattle.cidr_routes.proofs.PermitRows.{IsOpen, open_pushed, open_set, open_skipped}
use Rattle.cidr_routes.proofs.joined.open_networks.Goals as goal
use Rattle.cidr_routes.proofs.joined.open_networks.Goals.{then-is_open+in_ok-push, else-is_open}

pub loop-row-preserved : goal.loop-row-preserved
loop-row-preserved g c =
    let bits = g.C.BitString.bits in
    let w = width_of g.C.FamilyCidr.FAMILY in
    let l = c.loop-row in
    let row = c.row-item.result in
    let all = c.args.rows.now in
    let more : take (l.row-index + 1) all ≡ take l.row-index all ++ row ∷ [] =
    take_more all l.row-index row c.loop-row-test.true ∙ ap (λ r. take l.row-index all ++ r ∷ []) (sym c.row-item.is) in
    elim c.if-is_open.branch [
      | then-is_open+in_ok-push v ↦ rw (v.networks-is, v.in_ok-push.ensures.items)
          (subst (λ rows. (n : _) → Contains (l.networks.items ++ row.network ∷ []) n ↔ IsOpen bits w rows n) (sym more)
          (open_pushed bits w (take l.row-index all) row l.networks.items l.invariant (c.is_open.ensures.0 v.if-is_open.true)))
      | else-is_open v ↦ rw v.networks-is
          (subst (λ rows. (n : _) → Contains l.networks.items n ↔ IsOpen bits w rows n) (sym more)
          (open_skipped bits w (take l.row-index all) row l.networks.items l.invariant
          (λ e. true≢false (sym (c.is_open.ensures.1 e) ∙ v.if-is_open.false))))
    ]

pub returns : goal.returns
returns g c =
    let bits = g.C.BitString.bits in
    let w = width_of g.C.FamilyCidr.FAMILY in
    let l = c.loop-row in
    open_set bits w c.args.rows.now l.networks.items (map bits c.from_vec.result)
    (subst (λ rows. (n : _) → Contains l.networks.items n ↔ IsOpen bits w rows n) (take_all l.row-index c.args.rows.now c.loop-row-test.false) l.invariant)
    c.from_vec.ensures.set
