-- A text of prefix lists: what its lines do to the list of a name, one after the other.
use Rattle.std.specs.Prelude.{◌≡◌, ℕ, Bool, true, if◌then◌else◌, List, [], ◌∷◌, ◌++◌, map, Option, Some, None, Result, Ok, Err}
use Rattle.std.specs.List.{AllZip, fold}
use Rattle.std.specs.Str.{bytes_eq}
use Rattle.cidr.specs.declared.family.Family.{Family}
use Rattle.cidr.specs.declared.family.Family.TheVariants.{Ipv4, Ipv6}
use Rattle.cidr_lists.specs.ListLines.{IsTooLong, lines_of}
use Rattle.cidr_lists.specs.Lists.{line_networks}
use Rattle.cidr_lists.specs.PrefixLists.{CiscoSays, HasBadCiscoWords}
use Rattle.cidr_lists.specs.RouteErrors.{IsBadRouteBy, IsFirstBadFrom}
use Rattle.cidr_lists.specs.declared.prefix_lists.ListChange.{ListChange}
use Rattle.cidr_lists.specs.declared.prefix_lists.ListChange.TheVariants.{AddRow, Clear}
use Rattle.cidr_lists.specs.declared.prefix_lists.ListRow.{ListRow}
use Rattle.cidr_lists.specs.declared.prefix_lists.NumberedRow.{NumberedRow}
use Rattle.cidr_lists.specs.declared.prefix_lists.NumberedRows.{NumberedRows}
use Rattle.cidr_lists.specs.declared.route_errors.RouteError.{RouteError}
use Rattle.cidr_lists.specs.declared.route_errors.RouteListError.{RouteListError}
use Rattle.cidr_lists.specs.declared.route_errors.RouteListError.TheVariants.{Line, NoMemory}

-- ---- lines
-- what a line says that is not too long
abbrev pub RowLineSays : List ℕ → Option (List ℕ) × Option ListChange → Type 0
RowLineSays line said = ¬ (IsTooLong line) × CiscoSays line said.0 said.1

abbrev pub RowLinesSay : List ℕ → List (Option (List ℕ) × Option ListChange) → Type 0
RowLinesSay text said = AllZip RowLineSays (lines_of text) said

abbrev pub IsBadRowLine : List ℕ → RouteError → Type 0
IsBadRowLine line e = IsBadRouteBy HasBadCiscoWords line e

-- the first line in error, by its number from 1 on
abbrev pub IsFirstBadRowLine : List ℕ → ℕ → RouteError → Type 0
IsFirstBadRowLine text number e = IsFirstBadFrom 1 (AllZip RowLineSays) IsBadRowLine (lines_of text) number e

-- ---- what they do
abbrev pub numbered : ListRow → List Bool → NumberedRow (List Bool)
numbered row p = record { number = row.number; row = record { action = row.action; network = p; low = row.low; high = row.high } }

-- the rows of a family behind a change: one more, if it is of the family; or none, if those of the family are cleared
abbrev pub changed_by : Family → List (NumberedRow (List Bool)) → ListChange → List (NumberedRow (List Bool))
changed_by family rows (AddRow row) = rows ++ map (numbered row) (line_networks family (row.network ∷ []))
changed_by Ipv4 rows (Clear Ipv4) = []
changed_by Ipv4 rows (Clear Ipv6) = rows
changed_by Ipv6 rows (Clear Ipv4) = rows
changed_by Ipv6 rows (Clear Ipv6) = []

-- whether a line is about the list of this name: it names this one, or names none and the line before it is
abbrev pub is_about : List ℕ → Bool → Option (List ℕ) → Bool
is_about name before None = before
is_about name before (Some list) = bytes_eq list name

-- the rows of a family behind a line, if it is about the list
abbrev pub rows_after : Family → Bool → List (NumberedRow (List Bool)) → Option ListChange → List (NumberedRow (List Bool))
rows_after family about rows None = rows
rows_after family about rows (Some change) = if about then changed_by family rows change else rows

-- whether the last line is about the list, and the rows of a family behind it
abbrev pub after_line : List ℕ → Family → Bool × List (NumberedRow (List Bool)) → Option (List ℕ) × Option ListChange → Bool × List (NumberedRow (List Bool))
after_line name family before said =
    (is_about name before.0 said.0, rows_after family (is_about name before.0 said.0) before.1 said.1)

-- lines that come before every name are about the list, too
abbrev pub after_lines : List ℕ → Family → List (Option (List ℕ) × Option ListChange) → Bool × List (NumberedRow (List Bool))
after_lines name family said = fold (after_line name family) (true, []) said

abbrev pub numbered_rows : List ℕ → Family → List (Option (List ℕ) × Option ListChange) → List (NumberedRow (List Bool))
numbered_rows name family said = (after_lines name family said).1

-- ---- a text
abbrev pub numbered_of : NumberedRows → Family → List (NumberedRow (List Bool))
numbered_of rows Ipv4 = rows.v4.items
numbered_of rows Ipv6 = rows.v6.items

-- the rows of a list that a text says
abbrev pub HaveNumberedRows : List ℕ → List ℕ → NumberedRows → Type 0
HaveNumberedRows name text rows = (said : List (Option (List ℕ) × Option ListChange)) × RowLinesSay text said
    × ((family : Family) → numbered_of rows family ≡ numbered_rows name family said)

-- why a text is not read: its first line in error, or memory
abbrev pub IsRowsError : List ℕ → RouteListError → Type 0
IsRowsError text (Line number e) = IsFirstBadRowLine text number e
IsRowsError text NoMemory = Unit {0}

-- ---- what private functions promise
-- the rows behind a change of the list
abbrev pub RowsChange : NumberedRows → NumberedRows → ListChange → Type 0
RowsChange old new change = (family : Family) → numbered_of new family ≡ changed_by family (numbered_of old family) change

-- the rows behind a line, and whether it is about the list; or the line of this number is in error
abbrev pub AddsRowLine : List ℕ → List ℕ → ℕ → Bool → NumberedRows → NumberedRows → Result Bool RouteListError → Type 0
AddsRowLine name line number before old new (Ok about) = (said : Option (List ℕ) × Option ListChange) × RowLineSays line said
    × ((family : Family) → (about, numbered_of new family) ≡ after_line name family (before, numbered_of old family) said)
AddsRowLine name line number before old new (Err (Line n e)) = (n ≡ number) × IsBadRowLine line e
AddsRowLine name line number before old new (Err NoMemory) = Unit {0}
