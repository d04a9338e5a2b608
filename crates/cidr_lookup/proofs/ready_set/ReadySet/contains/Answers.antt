use Rattle.std.proofs.Common.{map, sym, subst}
use Rattle.std.specs.Bool.{Decides}
use Rattle.std.specs.Map.{keys_of}
use Rattle.cidr_table.specs.model.Cover.{Covers}
use Rattle.cidr_lookup.proofs.Sets.{tells}
use Rattle.cidr_lookup.proofs.ready_set.ReadySet.contains.Goals as goal

pub returns : goal.returns
returns g c =
    let f = g.C.BitString.bits in
    let k = f c.args.network.now in
    subst (λ l. Decides c.is_some.result (Covers (map f l) k)) c.self.view_is
    (subst (λ b. Decides b (Covers (map f (keys_of c.self.inside.ready.rows)) k)) (sym c.is_some.ensures)
    (tells f (keys_of c.self.inside.ready.rows) k c.find.result c.find.ensures))
