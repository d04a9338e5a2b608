use Rattle.std.proofs.Common.{◌≡◌, ◌∙◌, sym, ap, subst, arith, ℕ, ◌^◌, ◌<◌, List, length, IfOk}
use Rattle.std.proofs.lemmas.List.{length-map}
use Rattle.cidr_lookup.specs.Keys.{AreAscendingNetworks, key_networks}
use Rattle.cidr_lookup.specs.Rows.{numbered, numbered_rows}
use Rattle.cidr_lookup.specs.Tables.{IsLookupTable}
use Rattle.cidr_lookup.specs.declared.table.LookupTable.{LookupTable}
use Rattle.cidr_lookup.proofs.Networks.{large_result, refused_result, rows_ascend}
use Rattle.cidr_lookup.proofs.Numbers.{length_networks}
use Rattle.cidr_lookup.proofs.ready.words_of.Goals as goal

pub returns-in-Ok-clause-table : goal.returns-in-Ok-clause-table
returns-in-Ok-clause-table g c =
    subst (λ (ns : List (ℕ × ℕ)). IfOk c.build.result (λ (table : LookupTable). IsLookupTable g.C.Number.Address.width g.C.Number.Address.padding table.steps ns table.first.items table.words.items))
    (ap (key_networks g.C.Number.Address.value) c.as_slice.ensures.value ∙ c.in-Ok.ensures.networks) c.build.ensures.table

pub returns-in-Ok-clause-refused : goal.returns-in-Ok-clause-refused
returns-in-Ok-clause-refused g c =
    let w = g.C.Number.Address.width in
    let f = g.C.BitString.bits in
    let rows = c.args.rows.now in
    let few : length rows < 2 ^ 31 = omega arith in
    let networks : key_networks g.C.Number.Address.value c.as_slice.result.now ≡ numbered_rows f w rows =
    ap (key_networks g.C.Number.Address.value) c.as_slice.ensures.value ∙ c.in-Ok.ensures.networks in
    refused_result w _ _ (length rows) (key_networks g.C.Number.Address.value c.as_slice.result.now) c.build.result
    (ap length networks ∙ length-map rows (λ (row : g.row.C.Denot × g.row.V.Denot). numbered w (f row.0))) few
    (subst (AreAscendingNetworks w) (sym networks) (rows_ascend w f g.C.Ord.cmp g.met.C.NetworkBits.ordered rows c.requires c.in-Ok.ensures.fit)) c.build.ensures.refused

pub returns-in-Ok-clause-large : goal.returns-in-Ok-clause-large
returns-in-Ok-clause-large g c =
    let w = g.C.Number.Address.width in
    let f = g.C.BitString.bits in
    let rows = c.args.rows.now in
    let keys = c.as_slice.result.now in
    let networks : key_networks g.C.Number.Address.value keys ≡ numbered_rows f w rows =
    ap (key_networks g.C.Number.Address.value) c.as_slice.ensures.value ∙ c.in-Ok.ensures.networks in
    large_result w _ g.C.Number.Address.steps (length keys) (length rows) (key_networks g.C.Number.Address.value keys) (numbered_rows f w rows) c.build.result
    (sym (length_networks g.C.Number.Address.value keys) ∙ (ap length networks ∙ length-map rows (λ (row : g.row.C.Denot × g.row.V.Denot). numbered w (f row.0)))) networks c.build.ensures.refused
