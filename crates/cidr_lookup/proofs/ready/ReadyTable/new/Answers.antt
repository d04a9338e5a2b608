use Rattle.std.proofs.Common.{subst, List, length}
use Rattle.cidr_lookup.specs.Rows.{HaveTooManyWords, IsCountRefused, numbered_rows}
use Rattle.cidr_lookup.specs.Tables.{IsLookupTable}
use Rattle.cidr_lookup.proofs.ready.ReadyTable.new.Goals as goal

pub invariant_of-result : goal.invariant_of-result
invariant_of-result g c =
    subst (λ (xs : List (g.row.C.Denot × g.row.V.Denot)).
    IsLookupTable g.C.Number.Address.width g.C.Number.Address.padding c.in-Ok.words.steps (numbered_rows g.C.BitString.bits g.C.Number.Address.width xs)
    c.in-Ok.words.first.items c.in-Ok.words.words.items) c.rows_of.ensures.rows c.in-Ok.ensures.table

pub returns-in-Err-clause-refused : goal.returns-in-Err-clause-refused
returns-in-Err-clause-refused g c =
    subst (λ (xs : List (g.row.C.Denot × g.row.V.Denot)). IsCountRefused (length xs) c.in-Err.error) c.rows_of.ensures.rows c.in-Err.ensures.refused

pub returns-in-Err-clause-large : goal.returns-in-Err-clause-large
returns-in-Err-clause-large g c = λ e.
    subst (λ (xs : List (g.row.C.Denot × g.row.V.Denot)). HaveTooManyWords g.C.BitString.bits g.C.Number.Address.width g.C.Number.Address.padding g.C.Number.Address.steps xs)
    c.rows_of.ensures.rows (c.in-Err.ensures.large e)
