use Rattle.std.proofs.Common.{map, sym, ap, subst, ◌↔◌, List}
use Rattle.std.specs.Map.{keys_of}
use Rattle.cidr_table.specs.model.Cover.{Covers}
use Rattle.cidr_table.specs.model.FiniteMap.{StoredRows}
use Rattle.cidr_table.specs.model.LastRows.{AreLastRows}
use Rattle.cidr_lookup.proofs.Sets.{covers_same}
use Rattle.cidr_lookup.proofs.ready_set.ReadySet.new.Goals as goal

pub returns-in-Ok-new-clause-ok : goal.returns-in-Ok-new-clause-ok
returns-in-Ok-new-clause-ok g c =
    let f = g.C.BitString.bits in
    λ a. subst (λ ks. Covers (map f ks) a ↔ Covers (map f c.args.networks.now) a)
    (sym (ap (λ (t : StoredRows g.row.C.Denot (Unit {0})). keys_of t.rows) c.in-Ok-new.ensures.ok))
    (covers_same f c.args.networks.now c.in-Ok.rows.items c.from_rows.result.rows c.in-Ok.ensures c.from_rows.ensures.rows a)

pub returns-in-Err-default-TooLarge-clause-large : goal.returns-in-Err-default-TooLarge-clause-large
returns-in-Err-default-TooLarge-clause-large g c = λ e. (
  c.from_rows.result.rows,
  subst (λ (rows : List (g.row.C.Denot × Unit {0})). AreLastRows rows c.from_rows.result.rows) c.in-Ok.ensures c.from_rows.ensures.rows,
  c.in-Err-default-TooLarge.ensures.large (cc c.in-Err-default-TooLarge.field-0-1-is),
)
