-- Tables: a line is a network or an address with a value. How it is cut into these is said in `Forms`.
use Rattle.std.specs.Prelude.{ℕ, Bool, List, [], ◌∷◌, Option, Some, None, ◌≡◌, ◌+◌, ◌≤◌, ◌++◌, length, take, drop, map}
use Rattle.std.specs.List.{AllZip, flat_map, AllByRecursion}
use Rattle.cidr.specs.declared.cidr.combined.IpCidr.{IpCidr}
use Rattle.cidr.specs.declared.cidr.combined.IpCidr.TheVariants.{V4, V6}
use Rattle.cidr.specs.declared.family.Family.{Family}
use Rattle.cidr.specs.declared.family.Family.TheVariants.{Ipv4, Ipv6}
use Rattle.cidr_table.specs.model.LastRows.{AreLastRows}
use Rattle.cidr_lists.specs.Lists.{Text, bits_in, lines_of}
use Rattle.cidr_lists.specs.Forms.{RowSays}
use Rattle.cidr_lists.specs.declared.forms.RowForm.{RowForm}
use Rattle.cidr_lists.specs.declared.rows.RowList.{RowList}
use Rattle.cidr_lists.specs.declared.rows.Span.{Span}

-- ---- a table
-- a network of either family with what belongs to it, if it is of this family
abbrev pub row_in : {V : Type 0} → Family → IpCidr × V → List (List Bool × V)
row_in Ipv4 (V4 p, value) = (p, value) ∷ []
row_in Ipv4 (V6 p, value) = []
row_in Ipv6 (V4 p, value) = []
row_in Ipv6 (V6 p, value) = (p, value) ∷ []

-- that of a line, if it says one
abbrev pub said_in : Family → Option (IpCidr × List ℕ) → List (List Bool × List ℕ)
said_in family None = []
said_in family (Some row) = row_in family row

-- the networks of a family that the lines say
abbrev pub rows_in : Family → List (Option (IpCidr × List ℕ)) → List (List Bool × List ℕ)
rows_in family said = flat_map (said_in family) said

-- what a text says as a table: the networks of each family, each once, with the value of its last line
abbrev pub IsTable : RowForm → Text → (Family → List (List Bool × List ℕ)) → Type 0
IsTable form text table = (said : List (Option (IpCidr × List ℕ))) × AllZip (RowSays form (bits_in text.form)) (lines_of text.bytes) said
    × ((family : Family) → AreLastRows (rows_in family said) (table family))

-- the bytes of a value among those of all values
abbrev pub value_at : List ℕ → Span → List ℕ
value_at values span = take span.len (drop span.start values)

-- a row with its value
abbrev pub resolved : {C : Type 0} → List ℕ → C × Span → C × List ℕ
resolved values row = (row.0, value_at values row.1)

-- the rows of a family
abbrev pub stored : RowList → Family → List (List Bool × Span)
stored rows Ipv4 = rows.v4.items
stored rows Ipv6 = rows.v6.items

-- the values of rows lie in the bytes
abbrev pub AreSpansWithin : List ℕ → List (List Bool × Span) → Type 0
AreSpansWithin values rows = AllByRecursion (λ row. row.1.start + row.1.len ≤ length values) rows

-- the rows that lines say
pub record Stores (rows : RowList) (said : List (Option (IpCidr × List ℕ))) : Type 0 where
  pub same : (family : Family) → map (resolved rows.values.items) (stored rows family) ≡ rows_in family said
  pub within : (family : Family) → AreSpansWithin rows.values.items (stored rows family)

-- a value comes behind those before, and its row behind those of its family
pub record Pushes (old new : RowList) (network : IpCidr) (value : List ℕ) : Type 0 where
  pub values : new.values.items ≡ old.values.items ++ value
  pub rows : (family : Family) → stored new family
      ≡ stored old family ++ row_in family (network, record { start = length old.values.items; len = length value })

-- rows with the same networks and values
pub record AreCopies (rows others : RowList) : Type 0 where
  pub v4 : others.v4.items ≡ rows.v4.items
  pub v6 : others.v6.items ≡ rows.v6.items
  pub values : others.values.items ≡ rows.values.items
