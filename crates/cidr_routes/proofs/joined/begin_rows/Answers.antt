use Rattle.std.proofs.Common.{◌≡◌, ◌+◌, ◌++◌, ◌∷◌, [], take, map, refl, rules, sym, ap, ◌∙◌, subst}
use Rattle.std.proofs.lemmas.List.{take_more}
use Rattle.cidr.specs.model.Network.{width_of}
use Rattle.cidr_sets.specs.declared.access.Action.TheVariants.{Permit}
use Rattle.cidr_routes.specs.declared.lists.Row.{Row}
use Rattle.cidr_routes.specs.Lengths.{AreBegun}
use Rattle.cidr_routes.proofs.PermitRows.{begun_pushed, begun_skipped}
use Rattle.cidr_routes.proofs.joined.begin_rows.Goals as goal
use Rattle.cidr_routes.proofs.joined.begin_rows.Goals.{then-not-contains+in_ok-push, else-not-contains}

pub loop-network-preserved : goal.loop-network-preserved
loop-network-preserved g c =
    let bits = g.C.BitString.bits in
    let w = width_of g.C.FamilyCidr.FAMILY in
    let l = c.loop-network in
    let n = c.network-item.result in
    let all = c.args.networks.now in
    let cover = map bits c.args.cover.now in
    let more : take (l.network-index + 1) all ≡ take l.network-index all ++ n ∷ [] =
    take_more all l.network-index n c.loop-network-test.true ∙ ap (λ r. take l.network-index all ++ r ∷ []) (sym c.network-item.is) in
    let row : Row g.row.C.Denot = record { action = Permit; network = n; low = c.args.len; high = c.full_length-full.result } in
    elim c.if-not-contains.branch [
      | then-not-contains+in_ok-push v ↦ rw (v.out-is, v.in_ok-push.ensures.items)
          (subst (λ ns. AreBegun bits w c.args.len ns cover c.args.out.now.items (l.out.items ++ row ∷ [])) (sym more)
          (begun_pushed bits w c.args.len (take l.network-index all) cover c.args.out.now.items l.out.items n l.invariant row refl refl refl c.full_length-full.ensures.value))
      | else-not-contains v ↦ rw v.out-is
          (subst (λ ns. AreBegun bits w c.args.len ns cover c.args.out.now.items l.out.items) (sym more)
          (begun_skipped bits w c.args.len (take l.network-index all) cover c.args.out.now.items l.out.items n l.invariant
          (c.contains.ensures.networks.0 (search (rules, v.if-not-contains.false)))))
    ]
