-- The values of tables by numbers, so that a test of two tells whether their bytes are equal: what private functions promise.
use Rattle.std.specs.Prelude.{ℕ, Bool, List, ◌++◌, map, Contains, slice_index_or, []}
use Rattle.std.specs.Cmp.Lexicographic.{slice_cmp}
use Rattle.std.specs.List.{prefix_len}
use Rattle.std.specs.List.Sorted.{IsSorted}
use Rattle.std.specs.Ordering.{is_lt, nat_cmp}
use Rattle.cidr.specs.declared.family.Family.{Family}
use Rattle.cidr.specs.declared.family.Family.TheVariants.{Ipv4, Ipv6}
use denote.Ref.{Bor}

-- the bytes of some strings
abbrev pub slices : List (Bor (List ℕ)) → List (List ℕ)
slices values = map (λ (value : Bor (List ℕ)). value.now) values

-- the values ascend by their bytes
abbrev pub AreAscending : List (List ℕ) → Type 0
AreAscending values = IsSorted (slice_cmp nat_cmp) values

-- the number of a value: how many of these values, which ascend, are less
unfoldable pub number_in : List (List ℕ) → List ℕ → ℕ
number_in values value = prefix_len (λ other. is_lt (slice_cmp nat_cmp other value)) values

-- the value of a number
abbrev pub value_in : List (List ℕ) → ℕ → List ℕ
value_in values number = slice_index_or values number []

-- rows with numbers in place of their values
abbrev pub numbered : {C : Type 0} → List (List ℕ) → List (C × List ℕ) → List (C × ℕ)
numbered {C} values rows = map (λ (row : C × List ℕ). (row.0, number_in values row.1)) rows

-- the values of a table
abbrev pub row_values : {C : Type 0} → List (C × List ℕ) → List (List ℕ)
row_values {C} rows = map (λ (row : C × List ℕ). row.1) rows

abbrev pub table_values : (Family → List (List Bool × List ℕ)) → List (List ℕ)
table_values table = row_values (table Ipv4) ++ row_values (table Ipv6)

-- each value of a table is among these
abbrev pub HaveValues : List (List ℕ) → (Family → List (List Bool × List ℕ)) → Type 0
HaveValues values table = (family : Family) (row : List Bool × List ℕ) → Contains (table family) row → Contains values row.1
