-- The fewest rows in which a table gives each address the value of the longest network that it is in, or none.
use Rattle.std.specs.Prelude.{◌≡◌, ℕ, Bool, true, false, List, ◌++◌, map, codes, unwrap_or, Option, Some}
use Rattle.std.specs.List.{Contains, flat_map}
use Rattle.std.specs.Map.{values_of}
use Rattle.cidr.specs.declared.family.Family.{Family}
use Rattle.cidr.specs.declared.family.Family.TheVariants.{Ipv4, Ipv6}
use Rattle.cidr.specs.model.Network.{HasWidth, width_of}
use Rattle.cidr.specs.texts.Printed.{forced_text}
use Rattle.cidr_forwarding.specs.Forwarding.{IsSmallest, IsSmallestHoled}
use Rattle.cidr_lists.specs.Lists.{Text}
use Rattle.cidr_lists.specs.Tables.{IsTable}
use Rattle.cidr_lists.specs.declared.forms.RowForm.{RowForm}
use Rattle.netset_commands.specs.declared.errors.CommandError.{CommandError}
use Rattle.netset_commands.specs.declared.errors.CommandError.TheVariants as error
use Rattle.netset_commands.specs.declared.errors.FileError.TheVariants.{Hole}
use Rattle.netset_commands.specs.Rows.{row_text}

-- a row as a line: its network with its prefix length, and its value
abbrev pub row_line : Family → List Bool × List ℕ → List ℕ
row_line family (p, value) = row_text (forced_text family p) value

-- the rows of a family in as few rows, without holes, which say that their addresses have no value, or with them; a hole has
-- the value -, which then is no value of the rows
abbrev pub AreFewest : Bool → Family → List (List Bool × List ℕ) → List (List Bool × List ℕ) → Type 0
AreFewest false family rows fewest = IsSmallest (HasWidth (width_of family)) rows fewest
AreFewest true family rows fewest = ¬ (Contains (values_of rows) (codes "-")) × (holed : List (List Bool × Option (List ℕ)))
    × IsSmallestHoled (HasWidth (width_of family)) rows holed × (fewest ≡ map (λ (row : List Bool × Option (List ℕ)). (row.0, unwrap_or row.1 (codes "-"))) holed)

-- the table that a text says in as few rows, one a line, ascending, those of IPv4 first
abbrev pub IsSmallestOf : Bool → RowForm → Text → List ℕ → Type 0
IsSmallestOf holes form text answer = (table fewest : Family → List (List Bool × List ℕ)) × IsTable form text table
    × ((family : Family) → AreFewest holes family (table family) (fewest family))
    × (answer ≡ flat_map (row_line Ipv4) (fewest Ipv4) ++ flat_map (row_line Ipv6) (fewest Ipv6))

-- the error is that there are to be holes, and a value of the table is -
abbrev pub IsNoHole : Bool → RowForm → Option Text → List ℕ → CommandError → Type 0
IsNoHole true form contents name (error.File file Hole) = (file.now ≡ name) × ((text : Text) → contents ≡ Some text
    → (table : Family → List (List Bool × List ℕ)) × IsTable form text table
    × (family : Family) × Contains (values_of (table family)) (codes "-"))
IsNoHole holes form contents name e = ⊥
