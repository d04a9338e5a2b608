-- The rows of a table, as it is and for look-ups.
use Rattle.std.specs.Prelude.{ℕ, Bool, List, ◌++◌, codes, map}
use Rattle.cidr.specs.declared.family.Family.{Family}
use Rattle.cidr.specs.declared.family.Family.TheVariants.{Ipv4, Ipv6}
use Rattle.cidr_lists.specs.LookUps.{gap}
use Rattle.cidr_lists.specs.Tables.{resolved}
use Rattle.cidr_lists.specs.declared.rows.Span.{Span}
use Rattle.cidr_table.specs.model.FiniteMap.{StoredRows}
use Rattle.netset_commands.specs.declared.input.tables.Searched.{Searched}
use Rattle.netset_commands.specs.declared.input.tables.Searched.TheVariants.{Ready, Plain}
use Rattle.netset_commands.specs.declared.input.tables.SearchedTable.{SearchedTable}
use Rattle.netset_commands.specs.declared.input.tables.PlainTable.{PlainTable}

-- a network and behind a blank its value, if that is not empty, as a line
abbrev pub row_text : List ℕ → List ℕ → List ℕ
row_text network value = network ++ (gap 32 value ++ (value ++ codes "\n"))

-- the rows of a table, of each key one
abbrev pub kept : PlainTable → Family → List (List Bool × List ℕ)
kept table Ipv4 = map (resolved table.values.items) table.v4.rows
kept table Ipv6 = map (resolved table.values.items) table.v6.rows

-- the same of one for look-ups
abbrev pub searched_rows : {C : Type 0} → Searched (StoredRows C Span) (StoredRows C Span) → List (C × Span)
searched_rows (Ready table) = table.rows
searched_rows (Plain table) = table.rows

abbrev pub searched : SearchedTable → Family → List (List Bool × List ℕ)
searched table Ipv4 = map (resolved table.values.items) (searched_rows table.v4)
searched table Ipv6 = map (resolved table.values.items) (searched_rows table.v6)
