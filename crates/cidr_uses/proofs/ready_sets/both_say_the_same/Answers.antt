-- The networks made ready cover what those of the set do.
use Rattle.std.proofs.Common.{List, map, subst, sym}
use Rattle.cidr_table.specs.model.Cover.{Covers}
use Rattle.cidr_uses.proofs.AccessLists.{same_answer}
use Rattle.cidr_uses.proofs.ready_sets.both_say_the_same.Goals as goal

pub returns : goal.returns
returns g c =
    let f = g.C.BitString.bits in
    let k = f c.args.network.now in
    let alike = c.in_ok-ready.ensures.ok k in
    same_answer (Covers (map f c.args.set.now) k) c.contains.result c.contains-2.result (
      λ t. subst (λ (ns : List g.row.C.Denot). Covers (map f ns) k) c.as_slice.ensures.networks (alike.0 (c.contains.ensures.0 t)),
      λ h. c.contains.ensures.1 (alike.1 (subst (λ (ns : List g.row.C.Denot). Covers (map f ns) k) (sym c.as_slice.ensures.networks) h)),
    )
    c.contains-2.ensures.networks
