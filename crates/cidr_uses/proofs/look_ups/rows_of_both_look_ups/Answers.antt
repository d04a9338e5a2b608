use Rattle.std.proofs.Common.{◌∙◌, sym, subst}
use Rattle.std.specs.Option.{option_copied}
use Rattle.cidr_table.specs.model.FiniteMap.{StoredRows}
use Rattle.cidr_table.specs.model.Prefixes.{IsLookedUp}
use Rattle.cidr_uses.proofs.look_ups.rows_of_both_look_ups.Goals as goal

pub returns : goal.returns
returns g c =
    let bits = g.C.BitString.bits in
    let asked = bits c.args.asked.now in
    let one = option_copied c.lookup.result in
    let other = option_copied c.lookup-2.result in
    let there = subst (λ (t : StoredRows g.row.C.Denot g.row.V.Denot). IsLookedUp bits asked t.rows other) (sym c.table.ensures) c.lookup-2.ensures in
    c.copied-one.ensures
    ∙ c.look_ups_have_one_result.ensures c.table.result.now.rows asked one other c.lookup.ensures.sorted c.lookup.ensures.row there
    ∙ sym c.copied-other.ensures
