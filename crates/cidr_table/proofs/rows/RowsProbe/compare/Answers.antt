use Rattle.std.proofs.Common.{sym, ◌∙◌, ap, arith, ◌+◌, ◌<◌, length}
use Rattle.std.proofs.lemmas.List.{length-map}
use Rattle.std.specs.Map.{keys_of}
use Rattle.cidr_table.proofs.Insides.{key_at}
use Rattle.cidr_table.proofs.rows.RowsProbe.compare.Goals as goal

pub bounds-self-inside-i : goal.bounds-self-inside-i
bounds-self-inside-i g c = omega (arith, c.requires, length-map c.args.self.now.rows (λ (x : g.row.C.Denot × g.row.V.Denot). x.0), ap (λ t. length t.rows) c.self.view_is)

pub returns-clause-answer : goal.returns-clause-answer
returns-clause-answer g c =
    let rows = c.args.self.now.rows in
    let within : c.args.i < length rows = omega (arith, c.requires, length-map rows (λ (x : g.row.C.Denot × g.row.V.Denot). x.0)) in
    let key = key_at rows c.args.i c.args.key.now c.index-self-i.result within in
    (rw (ap (λ t. t.rows) c.self.view_is) at c.cmp.ensures) ∙ ap (λ k. g.C.Ord.cmp k c.args.key.now) (sym key)

pub returns-clause-keys : goal.returns-clause-keys
returns-clause-keys g c = ap (λ t. keys_of t.rows) c.self.view_is

pub returns-clause-count : goal.returns-clause-count
returns-clause-count g c = c.tick.ensures ∙ ap (λ t. t.comparisons + 1) c.self.view_is
