-- The networks made ready cover what those of the set do.
use Rattle.std.proofs.Common.{List, map, subst, sym}
use Rattle.std.proofs.lemmas.List.Elements.{All-weaker}
use Rattle.cidr_table.specs.model.Cover.{Covers}
use Rattle.cidr_uses.proofs.ready_sets.has_each.Goals as goal

pub returns-clause-each : goal.returns-clause-each
returns-clause-each g c =
    let f = g.C.BitString.bits in
    let Ready : g.row.C.Denot → Type 0 = λ x. Covers (map f c.in_ok-ready.ready) (f x) in
    let Set : g.row.C.Denot → Type 0 = λ x. Covers (map f c.args.set.now) (f x) in
    let to : (x : g.row.C.Denot) → Ready x → Set x =
    λ x h. subst (λ (ns : List g.row.C.Denot). Covers (map f ns) (f x)) c.as_slice.ensures.networks ((c.in_ok-ready.ensures.ok (f x)).0 h) in
    let back : (x : g.row.C.Denot) → Set x → Ready x =
    λ x h. (c.in_ok-ready.ensures.ok (f x)).1 (subst (λ (ns : List g.row.C.Denot). Covers (map f ns) (f x)) (sym c.as_slice.ensures.networks) h) in (
      λ t. All-weaker Ready Set to c.args.asked.now (c.are_in.ensures.0 t),
      λ h. c.are_in.ensures.1 (All-weaker Set Ready back c.args.asked.now h),
    )
