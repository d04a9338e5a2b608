-- The order of the rows of a prefix list: that of their numbers, which FRR and Cisco IOS give to rows without `seq` (Filtering, IP Prefix
-- List in FRR's user guide; `ip prefix-list` in Cisco's command reference of IP routing).
use Rattle.std.specs.Prelude.{◌≡◌, ℕ, ◌+◌, max, List, [], ◌∷◌, map, Option, Some, None}
use Rattle.std.specs.List.Sorted.{IsStrictlySortedBy}
use Rattle.std.specs.Map.{keys_of}
use Rattle.std.specs.Ordering.{nat_cmp}
use Rattle.cidr_table.specs.model.LastRows.{AreLastRows}
use Rattle.cidr_routes.specs.declared.lists.Row.{Row}
use Rattle.cidr_lists.specs.declared.prefix_lists.NumberedRow.{NumberedRow}

-- the number of a row: that behind `seq`, or else 5 more than the greatest before it
abbrev pub number_behind : ℕ → Option ℕ → ℕ
number_behind most None = most + 5
number_behind most (Some n) = n

-- rows with their numbers, behind others of which the greatest number is this
abbrev pub with_numbers : {C : Type 0} → ℕ → List (NumberedRow C) → List (ℕ × Row C)
with_numbers most [] = []
with_numbers most (row ∷ rows) = (number_behind most row.number, row.row) ∷ with_numbers (max most (number_behind most row.number)) rows

-- the rows in the order of their numbers: of those of one number the last
abbrev pub AreInOrder : {C : Type 0} → List (NumberedRow C) → List (Row C) → Type 0
AreInOrder {C} rows out = (kept : List (ℕ × Row C)) × IsStrictlySortedBy nat_cmp (keys_of kept) × AreLastRows (with_numbers 0 rows) kept
    × (out ≡ map (λ row. row.1) kept)
